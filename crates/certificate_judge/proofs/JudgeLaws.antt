-- Lines judged one after the other.
use Rattle.std.proofs.Common.{◌≡◌, ℕ, ◌+◌, ◌<◌, ◌≤◌, inl, inr, List, [], ◌∷◌, ◌++◌, drop, length, Option, Some, None, refl, sym, ap, ◌∙◌, subst, arith, append_assoc, append-nil, length-append}
use Rattle.signal_base.specs.declared.window.Window.{Window}
use Rattle.definitions.specs.declared.block.Block.{Block}
use Rattle.definitions.specs.answers.Blocks.{IsBound, items}
use Rattle.race_words.specs.declared.ends.Ends.{Ends}
use Rattle.race_words.specs.Keys.{no_key}
use Rattle.block_visits.specs.Apart.{key_if_any}
use Rattle.certificates.specs.declared.certificate.Line.{Line}
use Rattle.certificates.specs.declared.verdict.Verdict.{Verdict}
use Rattle.certificates.specs.declared.verdict.Verdict.TheVariants.{Uncovered, WrongBound, NotAbove}
use Rattle.certificates.specs.Validity.{IsAbove, leaf_ends, opened_by}
use Rattle.certificates.specs.Verdicts.{AreOver, IsDue, IsFound, IsOfEnds, begun_with, due_after}
use Rattle.certificate_judge.specs.Judging.{Bench, FoundFrom, HasEnded, IsGoing, IsJudgedBy, Kept, Keys, ends_with}
use Rattle.certificate_judge.specs.Marks.{AreMarked}
use Rattle.certificate_judge.proofs.EndsLaws.{ends_more}

-- no line was judged
pub starts : (b : Bench) (kept : Kept) → AreMarked (items b.window) kept.marks [] → kept.due ≡ [] → kept.step ≡ 1
    → kept.ends ≡ record { least = no_key; second = no_key } → IsGoing b kept []
starts b kept marked none_due first ends = record {
  begun = [];
  marked = marked;
  goes_on = λ keys later v found.
      subst (λ (n : ℕ). FoundFrom b keys n [] [] later v) first (subst (λ (due : List Block). FoundFrom b keys kept.step due [] later v) none_due found);
  ends = sym ends;
  number = first;
}

-- whether a line was wrong
pub going : (b : Bench) (v : Option Verdict) (kept : Kept) (ls : List Line) → v ≡ None → IsJudgedBy b v kept ls → IsGoing b kept ls
going b v kept ls e is = subst (λ (w : Option Verdict). IsJudgedBy b w kept ls) e is

pub ended : (b : Bench) (v : Option Verdict) (w : Verdict) (kept : Kept) (ls : List Line) → v ≡ Some w → IsJudgedBy b v kept ls → HasEnded b w ls
ended b v w kept ls e is = subst (λ (u : Option Verdict). IsJudgedBy b u kept ls) e is

pub is_going : (b : Bench) (v : Option Verdict) (kept : Kept) (ls : List Line) → v ≡ None → IsGoing b kept ls → IsJudgedBy b v kept ls
is_going b v kept ls e is = subst (λ (w : Option Verdict). IsJudgedBy b w kept ls) (sym e) is

pub has_ended : (b : Bench) (v : Option Verdict) (w : Verdict) (kept : Kept) (ls : List Line) → v ≡ Some w → HasEnded b w ls → IsJudgedBy b v kept ls
has_ended b v w kept ls e is = subst (λ (u : Option Verdict). IsJudgedBy b u kept ls) (sym e) is

-- nothing changes behind a wrong line
pub ended_more : (b : Bench) (v : Verdict) (ls more : List Line) → HasEnded b v ls → HasEnded b v (ls ++ more)
ended_more b v ls more is = λ keys later.
    subst (λ (x : List Line). FoundFrom b keys 1 [] [] x v) (sym (append_assoc ls more later)) (is keys (more ++ later))

module _ (b : Bench) (k : Kept) (ls : List Line) (l : Line) (is : IsGoing b k ls) where
  -- where the next line is wrong, that is found
  ends_by : (v : Verdict) → ((keys : Keys) (later : List Line) → FoundFrom b keys k.step k.due is.begun (l ∷ later) v) → HasEnded b v (ls ++ l ∷ [])
  ends_by v found = λ keys later.
      subst (λ (x : List Line). FoundFrom b keys 1 [] [] x v) (sym (append_assoc ls (l ∷ []) later)) (is.goes_on keys (l ∷ later) v (found keys later))

  pub not_due : ((begun : List Block) → AreMarked (items b.window) k.marks begun → IsDue b.window k.due begun l.block → ⊥)
      → HasEnded b (Uncovered k.step) (ls ++ l ∷ [])
  not_due never = ends_by (Uncovered k.step) (λ keys later. inl (inl (never is.begun is.marked, refl)))

  module _ (due : (begun : List Block) → AreMarked (items b.window) k.marks begun → IsDue b.window k.due begun l.block) where
    pub wrong_bound : (IsBound b.costs b.window l.block l.bound → ⊥) → HasEnded b (WrongBound k.step) (ls ++ l ∷ [])
    wrong_bound never = ends_by (WrongBound k.step) (λ keys later. inl (inr (inl (due is.begun is.marked, never, refl))))

    module _ (bound : IsBound b.costs b.window l.block l.bound) where
      pub not_above : (IsAbove b.limit l.kind l.block l.bound → ⊥) → HasEnded b (NotAbove k.step) (ls ++ l ∷ [])
      not_above never = ends_by (NotAbove k.step) (λ keys later. inl (inr (inr (due is.begun is.marked, bound, never, refl))))

      -- otherwise it is kept
      pub line_more : (n : Kept) → IsAbove b.limit l.kind l.block l.bound
          → ((begun : List Block) → AreMarked (items b.window) k.marks begun → AreMarked (items b.window) n.marks (begun_with k.due begun l.block))
          → n.due ≡ due_after k.due l → n.step ≡ k.step + 1 → n.ends ≡ ends_with b.ceiling l k.ends → IsGoing b n (ls ++ l ∷ [])
      line_more n above marked now_due counted ends = record {
        begun = begun_with k.due is.begun l.block;
        marked = marked is.begun is.marked;
        goes_on = λ keys later v found.
            subst (λ (x : List Line). FoundFrom b keys 1 [] [] x v) (sym (append_assoc ls (l ∷ []) later))
            (is.goes_on keys (l ∷ later) v
            (inr (
              record { due_is = due is.begun is.marked; bound = bound; above = above },
              subst (λ (n : ℕ). FoundFrom b keys n (due_after k.due l) (begun_with k.due is.begun l.block) later v) counted
                  (subst (λ (bs : List Block). FoundFrom b keys n.step bs (begun_with k.due is.begun l.block) later v) now_due found),
            )));
        ends = ends_more b.ceiling ls l ∙ (ap (ends_with b.ceiling l) is.ends ∙ sym ends);
        number = omega (arith, counted, is.number, length-append ls (l ∷ []));
      }

-- at the end
abbrev keys_of : Option ℕ → Option ℕ → Ends → Keys
keys_of first second ends = record { first = first; second = second; true_first = key_if_any ends.least; true_second = key_if_any ends.second }

abbrev FoundAll : Bench → Option ℕ → Option ℕ → List Line → Verdict → Type 0
FoundAll b first second ls v = FoundFrom b (keys_of first second (leaf_ends b.ceiling ls)) 1 [] [] ls v

pub ended_all : (b : Bench) (first second : Option ℕ) (ls : List Line) (v : Verdict) → HasEnded b v ls → FoundAll b first second ls v
ended_all b first second ls v is =
    let keys = keys_of first second (leaf_ends b.ceiling ls) in
    subst (λ (x : List Line). FoundFrom b keys 1 [] [] x v) (append-nil ls) (is keys [])

module _ (b : Bench) (k : Kept) (ls : List Line) (is : IsGoing b k ls) (first second : Option ℕ) where
  abbrev keys : Keys
  keys = keys_of first second (leaf_ends b.ceiling ls)

  at_end : (v : Verdict) → FoundFrom b keys k.step k.due is.begun [] v → FoundAll b first second ls v
  at_end v found = subst (λ (x : List Line). FoundFrom b keys 1 [] [] x v) (append-nil ls) (is.goes_on keys [] v found)

  pub not_all : ((begun : List Block) → AreMarked (items b.window) k.marks begun → AreOver b.window k.due begun → ⊥) → FoundAll b first second ls (Uncovered k.step)
  not_all never = at_end (Uncovered k.step) (inr (never is.begun is.marked, refl))

  pub all_of_ends : ((begun : List Block) → AreMarked (items b.window) k.marks begun → AreOver b.window k.due begun)
      → (v : Verdict) → IsOfEnds first second (key_if_any k.ends.least) (key_if_any k.ends.second) v → FoundAll b first second ls v
  all_of_ends over v of_ends =
      at_end v (inl (
        over is.begun is.marked,
        subst (λ (e : Ends). IsOfEnds first second (key_if_any e.least) (key_if_any e.second) v) (sym is.ends) of_ends,
      ))
