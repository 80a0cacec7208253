-- What the two least keys of a list are, by how many keys are not above a limit.
use Rattle.std.proofs.Common.{◌≡◌, ℕ, ◌+◌, ◌<◌, ◌≤◌, ◌↔◌, List, [], ◌∷◌, min, max, leb, cond, sym, subst, ⊎_elim, arith}
use Rattle.std.proofs.lemmas.Bool.{cases_lt}
use Rattle.std.proofs.lemmas.Bool.Decides.{nat_tests}
use Rattle.std.proofs.lemmas.List.Sums.{sum_by-cons}
use Rattle.race_words.specs.Keys.{no_key, two_least}
use Rattle.race_words.specs.Law.{count_up_to, IsTwoLeast, LeastTwoLaw}
use Rattle.race_words.proofs.LeastTwo.{same_ends, two_least_bound}

abbrev count_one : ℕ → ℕ → ℕ
count_one x limit = cond (leb x limit) 1 0

-- one key more, which is within the limit or above it
counts_key : (x limit : ℕ) → x ≤ limit → count_one x limit ≡ 1
counts_key x limit h = grind (arith, nat_tests)

skips_key : (x limit : ℕ) → limit < x → count_one x limit ≡ 0
skips_key x limit h = grind (arith, nat_tests)

module _ (x a b c limit one : ℕ) (least : (a ≤ limit) ↔ (1 ≤ c)) (second : (b ≤ limit) ↔ (2 ≤ c)) where
  first_within : x ≤ limit → one ≡ 1 → (min x a ≤ limit) ↔ (1 ≤ one + c)
  first_within h e = ((λ l. omega arith), (λ n. omega arith))

  first_above : limit < x → one ≡ 0 → (min x a ≤ limit) ↔ (1 ≤ one + c)
  first_above h e = ((λ l. let under : a ≤ limit = omega arith in let n = least.0 under in omega arith), (λ n. let under = least.1 (omega arith) in omega arith))

  last_within : x ≤ limit → one ≡ 1 → (min (max x a) b ≤ limit) ↔ (2 ≤ one + c)
  last_within h e = (
    (λ l. ⊎_elim (λ over. let n = second.0 (omega arith) in omega arith) (λ under. let n = least.0 under in omega arith) (cases_lt limit a)),
    (λ n. let under = least.1 (omega arith) in omega arith),
  )

  last_above : limit < x → one ≡ 0 → (min (max x a) b ≤ limit) ↔ (2 ≤ one + c)
  last_above h e = ((λ l. let under : b ≤ limit = omega arith in let n = second.0 under in omega arith), (λ n. let under = second.1 (omega arith) in omega arith))

count_up_to-cons : (limit x : ℕ) (xs : List ℕ) → count_up_to limit (x ∷ xs) ≡ count_one x limit + count_up_to limit xs
count_up_to-cons limit x xs = sum_by-cons (λ key. cond (leb key limit) 1 0) x xs

-- one key more, within the limit or above it, at the list's own counts
module _ (x : ℕ) (xs : List ℕ) (rest : IsTwoLeast xs (two_least xs)) (limit : ℕ) (is_key : limit < no_key) where
  abbrev a : ℕ
  a = (two_least xs).least

  abbrev b : ℕ
  b = (two_least xs).second

  abbrev c : ℕ
  c = count_up_to limit xs

  first_more : (min x a ≤ limit) ↔ (1 ≤ count_one x limit + c)
  first_more = ⊎_elim
      (λ over. first_above x a b c limit (count_one x limit) (rest.least limit is_key) (rest.second limit is_key) over (skips_key x limit over))
      (λ under. first_within x a b c limit (count_one x limit) (rest.least limit is_key) (rest.second limit is_key) under (counts_key x limit under))
      (cases_lt limit x)

  last_more : (min (max x a) b ≤ limit) ↔ (2 ≤ count_one x limit + c)
  last_more = ⊎_elim
      (λ over. last_above x a b c limit (count_one x limit) (rest.least limit is_key) (rest.second limit is_key) over (skips_key x limit over))
      (λ under. last_within x a b c limit (count_one x limit) (rest.least limit is_key) (rest.second limit is_key) under (counts_key x limit under))
      (cases_lt limit x)

pub two_least_are : (keys : List ℕ) → IsTwoLeast keys (two_least keys)
two_least_are [] = record {
  least = λ limit is_key. ((λ l. absurd (omega arith)), (λ n. absurd (omega arith)));
  second = λ limit is_key. ((λ l. absurd (omega arith)), (λ n. absurd (omega arith)));
}
two_least_are (x ∷ xs) = let rest = two_least_are xs in record {
  least = λ limit is_key. subst (λ n. (min x (two_least xs).least ≤ limit) ↔ (1 ≤ n)) (sym (count_up_to-cons limit x xs)) (first_more x xs rest limit is_key);
  second = λ limit is_key. subst (λ n. (min (max x (two_least xs).least) (two_least xs).second ≤ limit) ↔ (2 ≤ n)) (sym (count_up_to-cons limit x xs)) (last_more x xs rest limit is_key);
}

-- two lists of which the counts agree up to two
module _ (xs ys : List ℕ) (agree : (limit : ℕ) → limit < no_key → min 2 (count_up_to limit xs) ≡ min 2 (count_up_to limit ys)) where
  least-le : (two_least xs).least ≤ (two_least ys).least
  least-le = ⊎_elim
      (λ is_key. let limit : ℕ = (two_least ys).least in
      let there = ((two_least_are ys).least limit is_key).0 (omega arith) in let same = agree limit is_key in ((two_least_are xs).least limit is_key).1 (omega arith))
      (λ none. let bound = two_least_bound xs in omega arith)
      (cases_lt (two_least ys).least no_key)

  second-le : (two_least xs).second ≤ (two_least ys).second
  second-le = ⊎_elim
      (λ is_key. let limit : ℕ = (two_least ys).second in
      let there = ((two_least_are ys).second limit is_key).0 (omega arith) in let same = agree limit is_key in ((two_least_are xs).second limit is_key).1 (omega arith))
      (λ none. let bound = two_least_bound xs in omega arith)
      (cases_lt (two_least ys).second no_key)

pub two_least_same : (xs ys : List ℕ) → ((limit : ℕ) → limit < no_key → min 2 (count_up_to limit xs) ≡ min 2 (count_up_to limit ys)) → two_least xs ≡ two_least ys
two_least_same xs ys agree =
    let least : (two_least xs).least ≤ (two_least ys).least = least-le xs ys agree in
    let least' : (two_least ys).least ≤ (two_least xs).least = least-le ys xs (λ limit is_key. sym (agree limit is_key)) in
    let second : (two_least xs).second ≤ (two_least ys).second = second-le xs ys agree in
    let second' : (two_least ys).second ≤ (two_least xs).second = second-le ys xs (λ limit is_key. sym (agree limit is_key)) in
    same_ends (two_least xs) (two_least ys) (omega arith) (omega arith)

pub least_two_law : LeastTwoLaw
least_two_law = record { are = two_least_are; same = two_least_same }
