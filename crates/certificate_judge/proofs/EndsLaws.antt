-- The two least keys of leaves, a line more.
use Rattle.std.proofs.Common.{◌≡◌, ℕ, Bool, true, false, nat_le, if◌then◌else◌, List, [], ◌∷◌, ◌++◌, Option, Some, None, refl, sym, ap, ◌∙◌, append-nil}
use Rattle.std.proofs.lemmas.Grind.{flat_map-append}
use Rattle.std.proofs.lemmas.List.Elements.{filter-append}
use Rattle.definitions.specs.declared.block.Block.{Block}
use Rattle.definitions.specs.sequences.Keys.{ceiling_key}
use Rattle.definitions.specs.answers.Blocks.{block_key}
use Rattle.race_words.specs.declared.ends.Ends.{Ends}
use Rattle.race_words.specs.Keys.{two_least, with_key}
use Rattle.race_words.proofs.Gathered.{two_least-append, with_keys, with_keys-with_key}
use Rattle.certificates.specs.declared.certificate.Kind.{Kind}
use Rattle.certificates.specs.declared.certificate.Kind.TheVariants.{Opened, Pruned, Empty, Leaf}
use Rattle.certificates.specs.declared.certificate.Line.{Line}
use Rattle.certificates.specs.Validity.{leaf_as, leaf_ends, leaf_key, leaf_keys, up_to}
use Rattle.certificate_judge.specs.Judging.{ends_with, ends_with_keys}

-- of keys that are put behind others
module _ (limit : ℕ) (keys : List ℕ) where
  none_more : (ks : List ℕ) → ks ≡ [] → two_least (up_to limit (keys ++ ks)) ≡ two_least (up_to limit keys)
  none_more ks e = ap (λ (x : List ℕ). two_least (up_to limit (keys ++ x))) e ∙ ap (λ (x : List ℕ). two_least (up_to limit x)) (append-nil keys)

  last_more : (key : ℕ) (t : Bool) → two_least (up_to limit keys ++ (if t then key ∷ [] else []))
      ≡ (if t then with_key key (two_least (up_to limit keys)) else two_least (up_to limit keys))
  last_more key true =
      two_least-append (up_to limit keys) (key ∷ [])
      ∙ (with_keys-with_key (up_to limit keys) key (two_least [])
      ∙ ap (with_key key) (sym (two_least-append (up_to limit keys) []) ∙ ap two_least (append-nil (up_to limit keys))))
  last_more key false = ap two_least (append-nil (up_to limit keys))

  one_more : (key : ℕ) → two_least (up_to limit (keys ++ key ∷ [])) ≡ ends_with_keys limit (key ∷ []) (two_least (up_to limit keys))
  one_more key =
      ap two_least (filter-append (λ k. nat_le k limit) keys (key ∷ []))
      ∙ (ap (λ (x : List ℕ). two_least (up_to limit keys ++ x)) (by_test (nat_le key limit) refl) ∙ last_more key (nat_le key limit))
    where
      by_test : (t : Bool) → nat_le key limit ≡ t → up_to limit (key ∷ []) ≡ (if nat_le key limit then key ∷ [] else [])
      by_test true e = rw e refl
      by_test false e = rw e refl

  of_leaf : (k : Kind) (b : Block) (bound : Option ℕ) → two_least (up_to limit (keys ++ (leaf_as k b bound ++ [])))
      ≡ ends_with_keys limit (leaf_as k b bound) (two_least (up_to limit keys))
  of_leaf Opened b bound = none_more [] refl
  of_leaf Pruned b bound = none_more [] refl
  of_leaf Empty b bound = none_more [] refl
  of_leaf Leaf b None = none_more [] refl
  of_leaf Leaf b (Some n) = one_more (block_key n b)

pub ends_more : (ceiling : ℕ) (ls : List Line) (l : Line) → leaf_ends ceiling (ls ++ l ∷ []) ≡ ends_with ceiling l (leaf_ends ceiling ls)
ends_more ceiling ls l =
    ap (λ (x : List ℕ). two_least (up_to (ceiling_key ceiling) x)) (flat_map-append leaf_key ls (l ∷ []))
    ∙ of_leaf (ceiling_key ceiling) (leaf_keys ls) l.kind l.block l.bound
