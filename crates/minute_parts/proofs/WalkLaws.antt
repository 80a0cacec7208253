-- The walks of a block that meet no minute of 61 seconds.
use Rattle.std.proofs.Common.{◌≡◌, ℕ, zero, suc, ◌+◌, ◌-◌, ◌/◌, ◌%◌, ◌<◌, ◌≤◌, ◌↔◌, Bool, true, false, nat_lt, if◌then◌else◌, refl, sym, ap, ◌∙◌, subst, arith}
use Rattle.std.proofs.lemmas.Bool.{ltb-true, ltb-false}
use Rattle.signal_base.specs.declared.station.Station.{Station}
use Rattle.signal_base.specs.declared.window.Window.{Window}
use Rattle.signal_base.specs.Mask.{has_bit}
use Rattle.definitions.specs.declared.sequence.Sequence.{Sequence}
use Rattle.definitions.specs.declared.block.Block.{Block}
use Rattle.definitions.specs.time.Calendar.{minute_length}
use Rattle.definitions.specs.codes.Allowed.{allowed, CanBeEncoded}
use Rattle.definitions.specs.sequences.Walks.{next_place, place_at, set_at, IsWalkable}
use Rattle.definitions.specs.answers.Blocks.{IsBlock, IsIn, IsUnion, MayCarry}
use Rattle.definitions.proofs.PlaceLaws.{plain_place}
use Rattle.minute_parts.specs.Unions.{IsInSome, IsUnionOver}
use Rattle.minute_parts.specs.Walks.{HasRegularWalks, reach}

same_place : (m s m' s' : ℕ) → m ≡ m' → s ≡ s' → ◌≡◌ {A = ℕ × ℕ} (m, s) (m', s')
same_place m s m' s' e g = cc

-- the next second within a minute of 60, and after it
step : (t n : ℕ) (less : Bool) → nat_lt (n % 60 + 1) 60 ≡ less
    → ◌≡◌ {A = ℕ × ℕ} (if less then (t + n / 60, n % 60 + 1) else (t + n / 60 + 1, 0)) (plain_place t (suc n))
step t n true e =
    let within = ltb-true (n % 60 + 1) 60 e in
    same_place _ _ _ _ (omega arith) (omega arith)
step t n false e =
    let last = ltb-false (n % 60 + 1) 60 e in
    same_place _ _ _ _ (omega arith) (omega arith)

-- a walk whose minutes have 60 seconds each counts by sixty
regular_walk : (q : Sequence) (k : ℕ) → q.second < 60
    → ((n : ℕ) → n ≤ (q.second + k) / 60 → minute_length q.announced (q.first + n) ≡ 60)
    → place_at q k ≡ plain_place q.first (q.second + k)
unfolding place_at
regular_walk q zero small short = same_place _ _ _ _ (omega arith) (omega arith)
regular_walk q (suc k) small short =
    let n : ℕ = q.second + k in
    let here = short (n / 60) (omega arith) in
    let before = regular_walk q k small (λ m le. short m (omega (arith, le))) in
    let one_more : suc n ≡ q.second + suc k = omega arith in
    ap (next_place q.announced) before
    ∙ ap (λ long. if nat_lt (n % 60 + 1) long then (q.first + n / 60, n % 60 + 1) else (q.first + n / 60 + 1, 0)) here
    ∙ step q.first n _ refl ∙ ap (plain_place q.first) one_more

module _ (window : Window) (b : Block) (regular : HasRegularWalks window b) where
  -- a sequence of the block
  place_from : (q : Sequence) (k : ℕ) → q.announced ≡ b.announced → q.second ≡ b.second → b.lo ≤ q.first → q.first < b.hi → k < window.seconds
      → place_at q k ≡ plain_place q.first (q.second + k)
  place_from q k a p lo hi lt =
      regular_walk q k (omega (arith, p, regular.second)) (λ n le.
      ap (λ w. minute_length w (q.first + n)) a ∙ regular.short (q.first + n) (omega (arith, lo)) (omega (arith, hi, le, lt, p)))

  pub places : (q : Sequence) (k : ℕ) → IsIn b q → k < window.seconds → place_at q k ≡ plain_place q.first (b.second + k)
  places q k is lt =
      place_from q k is.announced is.second is.not_before is.before_end lt
      ∙ ap (λ p. plain_place q.first (p + k)) is.second

  reached : (q : Sequence) (k : ℕ) → IsIn b q → k < window.seconds → q.first + (b.second + k) / 60 < b.hi + reach window b
  reached q k is lt = omega (arith, is.before_end, lt)

  pub walkable : (q : Sequence) → IsBlock window b → IsIn b q → IsWalkable window q
  walkable q block is = record {
    not_before = omega (arith, block.not_before, is.not_before);
    before_end = omega (arith, block.ends, is.before_end);
    second =
        let long = ap (λ w. minute_length w q.first) is.announced ∙ regular.short q.first is.not_before (omega (arith, is.before_end)) in
        omega (arith, long, is.second, regular.second);
    encoded = λ k lt.
        subst (λ place. CanBeEncoded window.stations place.0) (sym (places q k is lt))
        (regular.encoded (q.first + (b.second + k) / 60) (omega (arith, is.not_before)) (reached q k is lt));
  }

  module _ (block : IsBlock window b) (station : Station) (k : ℕ) (lt : k < window.seconds) where
    abbrev after : ℕ
    after = (b.second + k) / 60

    abbrev sets : ℕ → ℕ
    sets t = allowed station b.announced (t, (b.second + k) % 60)

    set_is : (q : Sequence) → IsIn b q → set_at station q k ≡ sets (q.first + after)
    set_is q is = ap (λ w. allowed station w (place_at q k)) is.announced ∙ ap (allowed station b.announced) (places q k is lt)

    -- the sequence of the block that walks through a minute
    abbrev from : ℕ → Sequence
    from t = record { first = t - after; second = b.second; announced = b.announced }

    carried : (x : ℕ) → MayCarry window b station k x → IsInSome sets (b.lo + after) (b.hi + after) x
    carried x h =
        (h.0.first + after, omega (arith, h.1.not_before), omega (arith, h.1.before_end), ap (λ set. has_bit set x) (sym (set_is h.0 h.1)) ∙ h.3)

    carries : (x : ℕ) → IsInSome sets (b.lo + after) (b.hi + after) x → MayCarry window b station k x
    carries x h =
        let back : h.0 - after + after ≡ h.0 = omega (arith, h.1) in
        let is : IsIn b (from h.0) = record { announced = refl; second = refl; not_before = omega (arith, h.1); before_end = omega (arith, h.1, h.2) } in
        (from h.0, is, walkable (from h.0) block is, ap (λ set. has_bit set x) (set_is (from h.0) is ∙ ap sets back) ∙ h.3)

    pub unions : (set : ℕ) → IsUnion window b station k set ↔ IsUnionOver station b.announced (b.lo + after) (b.hi + after) ((b.second + k) % 60) set
    unions set = (
      λ u. record { byte = u.byte; each = λ x h. u.each x (carries x h); only = λ x has. carried x (u.only x has) },
      λ u. record { byte = u.byte; each = λ x h. u.each x (carried x h); only = λ x has. carries x (u.only x has) },
    )
