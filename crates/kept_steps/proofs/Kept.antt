-- What keeps the steps of a search has the lists of its workers.
use Rattle.std.proofs.Common.{◌≡◌, ℕ, List, [], ◌∷◌, ◌++◌, append_assoc, refl, sym, ap, ◌∙◌, subst}
use Rattle.std.specs.List.{AllByRecursion, FoldsTo}
use Rattle.std.proofs.lemmas.List.{append-nil}
use Rattle.signal_base.specs.declared.window.Window.{Window}
use Rattle.definitions.specs.declared.block.Block.{Block}
use Rattle.definitions.specs.heard.Costs.{Costs}
use Rattle.race_words.specs.declared.view.View.{View}
use Rattle.block_visits.specs.Visits.{items_at}
use Rattle.workers.specs.Recorded.{Shares, alone, halves, lists_of, steps_of, AreTaken, HaveRecorded, IsTold}
use Rattle.workers.specs.Steps.{Step, AreSteps, keys_of, reads_of}
use Rattle.kept_steps.specs.Kept.{AreKept, all_of, with_last}
use Rattle.kept_steps.specs.OfWorkers.{IsOfWorker}
use Rattle.kept_steps.proofs.Keeping.{of_worker}

pub with_last_at : (earlier : List (List Step)) (last : List Step) (s : Step) → with_last (earlier ++ last ∷ []) s ≡ earlier ++ (last ++ s ∷ []) ∷ []
with_last_at [] last s = refl
with_last_at (e ∷ []) last s = refl
with_last_at (e ∷ f ∷ fs) last s = ap (λ ls. e ∷ ls) (with_last_at (f ∷ fs) last s)

abbrev Told : List (List Step) → Step → List (List Step) → Type 0
Told before s after = after ≡ with_last before s

abbrev Parts : List (List Step) → List (List Step) → List (List Step) → Type 0
Parts before after part = (after ≡ before) × (part ≡ [] ∷ [])

abbrev Joins : List (List Step) → List (List Step) → List (List Step) → Type 0
Joins before part after = after ≡ before ++ part

-- a list of its own steps, told of more
told_more : (last steps : List Step) (q : List (List Step)) → FoldsTo Told (last ∷ []) steps q → q ≡ (last ++ steps) ∷ []
told_more last [] q is = sym is ∙ ap (λ l. l ∷ []) (sym (append-nil last))
told_more last (s ∷ ss) q told =
    told_more (last ++ s ∷ []) ss q (subst (λ (p : List (List Step)). FoldsTo Told p ss q) told.1 told.2)
    ∙ ap (λ l. l ∷ []) (append_assoc last (s ∷ []) ss)

lists_kept : (shares : Shares) (q : List (List Step)) → IsTold Told Parts Joins shares ([] ∷ []) q → q ≡ lists_of shares
lists_kept (alone steps) q told = told_more [] steps q told
lists_kept (halves near far) q told =
    let first = lists_kept near told.2 (subst (λ (p : List (List Step)). IsTold Told Parts Joins near p told.2) told.4.0 told.5) in
    let second = lists_kept far told.3 (subst (λ (p : List (List Step)). IsTold Told Parts Joins far p told.3) told.4.1 told.6) in
    told.7 ∙ (ap (λ ls. ls ++ told.3) first ∙ ap (λ ls. lists_of near ++ ls) second)

all_append : (a b : List (List Step)) → all_of (a ++ b) ≡ all_of a ++ all_of b
all_append [] b = refl
all_append (x ∷ xs) b = ap (λ ss. x ++ ss) (all_append xs b) ∙ sym (append_assoc x (all_of xs) (all_of b))

all_steps : (shares : Shares) → steps_of shares ≡ all_of (lists_of shares)
all_steps (alone steps) = sym (append-nil steps)
all_steps (halves near far) =
    ap (λ ss. ss ++ steps_of far) (all_steps near)
    ∙ (ap (λ ss. all_of (lists_of near) ++ ss) (all_steps far) ∙ sym (all_append (lists_of near) (lists_of far)))

of_workers : (ceiling : ℕ) (lists : List (List Step)) → AllByRecursion (AreTaken ceiling) lists → AllByRecursion (IsOfWorker ceiling) lists
of_workers ceiling [] each = tt
of_workers ceiling (steps ∷ lists) each = (of_worker ceiling steps each.0, of_workers ceiling lists each.1)

pub all_kept : (costs : Costs) (window : Window) (ceiling : ℕ) (items : List Block) (workers : ℕ) (v : View) (p q : List (List Step)) → p ≡ [] ∷ []
    → HaveRecorded (λ before s after. after ≡ with_last before s) (λ before after part. (after ≡ before) × (part ≡ [] ∷ [])) (λ before part after. after ≡ before ++ part)
    costs window ceiling items workers v p q
    → AreKept costs window ceiling items workers v q
all_kept costs window ceiling items workers v p q fresh r =
    let kept = subst (λ (begun : List (List Step)). IsTold Told Parts Joins r.shares begun q) fresh r.kept in
    subst (λ (lists : List (List Step)). AreKept costs window ceiling items workers v lists) (sym (lists_kept r.shares q kept)) (record {
      as_many = r.as_many;
      are = subst (λ (ss : List Step). AreSteps costs window ceiling (items_at items v.drawn) ss) (all_steps r.shares) r.are;
      read = r.read ∙ ap (λ ss. reads_of ss) (all_steps r.shares);
      offered = r.offered ∙ ap (λ ss. keys_of ceiling ss) (all_steps r.shares);
      each = of_workers ceiling (lists_of r.shares) r.each;
    })

-- what was kept at the end of the last list was told of
pub kept_last : (earlier : List (List Step)) (last new : List Step) (s : Step) (whole : List (List Step)) → earlier ++ last ∷ [] ≡ whole → new ≡ last ++ s ∷ []
    → earlier ++ new ∷ [] ≡ with_last whole s
kept_last earlier last new s whole is added =
    ap (λ l. earlier ++ l ∷ []) added ∙ (sym (with_last_at earlier last s) ∙ ap (λ w. with_last w s) is)
