-- What a visit appends to one list of steps.
use Rattle.std.proofs.Common.{◌≡◌, ℕ, List, [], ◌∷◌, ◌++◌, append_assoc, sym, ap, ◌∙◌, subst}
use Rattle.std.specs.List.{FoldsTo}
use Rattle.std.proofs.lemmas.List.{append-nil}
use Rattle.signal_base.specs.declared.window.Window.{Window}
use Rattle.definitions.specs.declared.block.Block.{Block}
use Rattle.definitions.specs.heard.Costs.{Costs}
use Rattle.race_words.specs.declared.view.View.{View}
use Rattle.definitions.specs.answers.Blocks.{IsBlock}
use Rattle.block_visits.specs.Facts.{Facts}
use Rattle.workers.specs.Searches.{HasVisited}
use Rattle.workers.specs.Steps.{Step, HasStopped, HasWalked}
use Rattle.workers.proofs.Taking.{gained_steps, visited}
use Rattle.kept_steps.specs.Kept.{HasAppended, HasLeft}
use Rattle.kept_steps.proofs.Keeping.{all_offered_above, all_read_above, visitor_keeps, visitor_within}

abbrev Told : List Step → Step → List Step → Type 0
Told before s after = after ≡ before ++ s ∷ []

told_all : (steps p q : List Step) → FoldsTo Told p steps q → q ≡ p ++ steps
told_all [] p q is = sym is ∙ sym (append-nil p)
told_all (s ∷ ss) p q told =
    told_all ss (p ++ s ∷ []) q (subst (λ (r : List Step). FoldsTo Told r ss q) told.1 told.2) ∙ append_assoc p (s ∷ []) ss

pub appended : (costs : Costs) (window : Window) (ceiling : ℕ) (b : Block) (v w : View) (p q : List Step)
    → HasWalked (λ before s after. after ≡ before ++ s ∷ []) costs window ceiling b v w p q → HasAppended costs window ceiling b v w p q
appended costs window ceiling b v w p q walked =
    let gained = gained_steps ceiling walked.steps v w walked.view in record {
      steps = walked.steps;
      after_is = told_all walked.steps p q walked.kept;
      are = walked.are;
      read = gained.read;
      offered = gained.offered;
      keep_to = visitor_keeps ceiling walked.steps v w walked.view;
      read_above = all_read_above ceiling walked.steps v w walked.view;
      least_known = all_offered_above ceiling walked.steps v w walked.view;
      second_known = visitor_within ceiling walked.steps v w walked.view;
    }

pub left : (costs : Costs) (window : Window) (ceiling : ℕ) (b : Block) (v w : View) (p q : List Step)
    → HasStopped (λ before s after. after ≡ before ++ s ∷ []) (λ before after. after ≡ before) costs window ceiling b v w p q
    → HasLeft costs window ceiling b v w p q
left costs window ceiling b v w p q stopped = record {
  steps = stopped.steps;
  after_is = stopped.kept.2 ∙ told_all stopped.steps p stopped.kept.0 stopped.kept.1;
  are = stopped.are;
  share = stopped.share;
  drawn = stopped.drawn;
}

-- what was walked was visited
pub visited_by : (costs : Costs) (window : Window) (ceiling : ℕ) → Facts costs window ceiling → (b : Block) (v w : View) (p q : List Step) → IsBlock window b
    → HasWalked (λ before s after. after ≡ before ++ s ∷ []) costs window ceiling b v w p q → HasVisited costs window ceiling b v w
visited_by costs window ceiling facts b v w p q block walked =
    visited costs window ceiling facts (λ before s after. after ≡ before ++ s ∷ []) b v w p q block walked
