-- How the steps of a visit come about, one block after the other.
use Rattle.std.proofs.Common.{◌≡◌, ◌≢◌, ℕ, ◌<◌, ◌≤◌, if◌then◌else◌, List, [], ◌∷◌, ◌++◌, append_assoc, Option, Some, None, refl, sym, ap, ◌∙◌, subst}
use Rattle.std.specs.List.{FoldsTo}
use Rattle.std.proofs.lemmas.Bool.{le-leb, lt-leb}
use Rattle.std.proofs.lemmas.List.{append-nil}
use Rattle.signal_base.specs.declared.window.Window.{Window}
use Rattle.definitions.specs.declared.block.Block.{Block}
use Rattle.definitions.specs.declared.block.Span.{Span}
use Rattle.definitions.specs.declared.block.Span.TheVariants.{Year, Day, Hour, Minute}
use Rattle.definitions.specs.heard.Costs.{Costs}
use Rattle.definitions.specs.answers.Blocks.{block_key, children, children_by, IsBound}
use Rattle.race_words.specs.declared.view.View.{View}
use Rattle.race_words.specs.Views.{after_limit, after_offer}
use Rattle.block_visits.specs.Visits.{limit_at, offered_by, offered_under, opened_under}
use Rattle.workers.specs.Steps.{Step, AreFirstSteps, AreSteps, HasOpened, HasStopped, HasWalked, HaveStopped, HaveWalked, Offers, Takes}
use Rattle.workers.proofs.Taking.{gained_steps}

pub folds_then : {P X : Type 0} (R : P → X → P → Type 0) (xs ys : List X) (p q r : P) → FoldsTo R p xs q → FoldsTo R q ys r → FoldsTo R p (xs ++ ys) r
folds_then R [] ys p q r a b = subst (λ p. FoldsTo R p ys r) (sym a) b
folds_then R (x ∷ xs) ys p q r a b = (a.0, a.1, folds_then R xs ys a.0 q r a.2 b)

-- a block that isn't passed over opens its children
opened_is : (limit n : ℕ) (b : Block) → block_key n b ≤ limit → opened_under limit b (Some n) ≡ children b
opened_is limit n b le = ap (λ t. if t then children b else []) (le-leb (block_key n b) limit le)

opened_none : (limit n : ℕ) (b : Block) → limit < block_key n b → opened_under limit b (Some n) ≡ []
opened_none limit n b over = ap (λ t. if t then children b else []) (lt-leb (block_key n b) limit over)

offered_is : (limit n : ℕ) (b : Block) → block_key n b ≤ limit → offered_under limit b (Some n) ≡ offered_by b.span (block_key n b)
offered_is limit n b le = ap (λ t. if t then offered_by b.span (block_key n b) else []) (le-leb (block_key n b) limit le)

offers_nothing : (s : Span) (key : ℕ) → s ≢ Minute → offered_by s key ≡ []
offers_nothing Year key long = refl
offers_nothing Day key long = refl
offers_nothing Hour key long = refl
offers_nothing Minute key long = absurd (long refl)

offered_none : (limit n : ℕ) (b : Block) → limit < block_key n b → offered_under limit b (Some n) ≡ []
offered_none limit n b over = ap (λ t. if t then offered_by b.span (block_key n b) else []) (lt-leb (block_key n b) limit over)

-- the key of a block that isn't passed over
is_within : {P : Type 0} {told : P → Step → P → Type 0} {ceiling : ℕ} {b : Block} {bound : Option ℕ} {key : ℕ} {v u : View} {p q : P}
    (opened : HasOpened told ceiling b bound key v u p q) → block_key opened.least b ≤ limit_at ceiling opened.seen
is_within {ceiling = ceiling} opened = subst (λ k. k ≤ limit_at ceiling opened.seen) opened.key_is opened.within

module _ (costs : Costs) (window : Window) (ceiling : ℕ) where
  pub steps_then : (ss ts : List Step) (bs cs : List Block) → AreSteps costs window ceiling bs ss → AreSteps costs window ceiling cs ts
      → AreSteps costs window ceiling (bs ++ cs) (ss ++ ts)
  steps_then [] ts [] cs a b = b
  steps_then [] ts (x ∷ bs) cs a b = absurd a
  steps_then (s ∷ ss) ts [] cs a b = absurd a
  steps_then (s ∷ ss) ts (x ∷ bs) cs a b =
      let opened = opened_under (limit_at ceiling s.seen) x s.bound in (
        a.0,
        a.1,
        subst (λ bs. AreSteps costs window ceiling bs (ss ++ ts)) (append_assoc opened bs cs) (steps_then ss ts (opened ++ bs) cs a.2 b),
      )

  first_then : (ss ts : List Step) (bs cs : List Block) → AreSteps costs window ceiling bs ss → AreFirstSteps costs window ceiling cs ts
      → AreFirstSteps costs window ceiling (bs ++ cs) (ss ++ ts)
  first_then [] ts [] cs a b = b
  first_then [] ts (x ∷ bs) cs a b = absurd a
  first_then (s ∷ ss) ts [] cs a b = absurd a
  first_then (s ∷ ss) ts (x ∷ bs) cs a b =
      let opened = opened_under (limit_at ceiling s.seen) x s.bound in (
        a.0,
        a.1,
        subst (λ bs. AreFirstSteps costs window ceiling bs (ss ++ ts)) (append_assoc opened bs cs) (first_then ss ts (opened ++ bs) cs a.2 b),
      )

  -- more blocks may follow those of which the steps are the first
  first_further : (ss : List Step) (bs cs : List Block) → AreFirstSteps costs window ceiling bs ss → AreFirstSteps costs window ceiling (bs ++ cs) ss
  first_further [] bs cs a = tt
  first_further (s ∷ ss) [] cs a = absurd a
  first_further (s ∷ ss) (x ∷ bs) cs a =
      let opened = opened_under (limit_at ceiling s.seen) x s.bound in (
        a.0,
        a.1,
        subst (λ bs. AreFirstSteps costs window ceiling bs ss) (append_assoc opened bs cs) (first_further ss (opened ++ bs) cs a.2),
      )

-- a visit of blocks under way: the steps done, after which those of the blocks that are left make it whole
pub record IsWalking {P : Type 0} (told : P → Step → P → Type 0) (costs : Costs) (window : Window) (ceiling : ℕ) (bs : List Block) (v : View) (p : P) (left : List Block) (w : View) (q : P) : Type 0 where
  pub done : List Step
  pub goes : (more : List Step) → AreSteps costs window ceiling left more → AreSteps costs window ceiling bs (done ++ more)
  pub first : (more : List Step) → AreFirstSteps costs window ceiling left more → AreFirstSteps costs window ceiling bs (done ++ more)
  pub view : FoldsTo (Takes ceiling) v done w
  pub kept : FoldsTo told p done q

module _ {P : Type 0} {told : P → Step → P → Type 0} {costs : Costs} {window : Window} {ceiling : ℕ} where
  module _ (b : Block) (v w : View) (p q : P) (bound : Option ℕ) (seen : ℕ) (is_bound : IsBound costs window b bound) (low : seen ≤ v.floor)
      (was_told : told p (record { block = b; bound = bound; seen = seen }) q) where
    -- the block's own step, of which these keys are offered and these blocks opened
    begun : (keys : List ℕ) (opened : List Block) → offered_under (limit_at ceiling seen) b bound ≡ keys → opened_under (limit_at ceiling seen) b bound ≡ opened
        → Offers keys (after_limit seen v) w → IsWalking told costs window ceiling (b ∷ []) v p opened w q
    begun keys opened offers opens after = record {
      done = record { block = b; bound = bound; seen = seen } ∷ [];
      goes = λ more steps. (refl, is_bound, subst (λ bs. AreSteps costs window ceiling bs more) (sym (append-nil _ ∙ opens)) steps);
      first = λ more steps. (refl, is_bound, subst (λ bs. AreFirstSteps costs window ceiling bs more) (sym (append-nil _ ∙ opens)) steps);
      view = (w, (low, subst (λ ks. Offers ks (after_limit seen v) w) (sym offers) after), refl);
      kept = (q, was_told, refl);
    }

  pub not_begun : {bs : List Block} (v : View) (p : P) → IsWalking told costs window ceiling bs v p bs v p
  not_begun v p = record { done = []; goes = λ more steps. steps; first = λ more steps. steps; view = refl; kept = refl }

  module _ {bs left : List Block} {v w : View} {p q : P} (walking : IsWalking told costs window ceiling bs v p left w q) where
    -- the blocks that were left are walked too
    all_walked : {u : View} {r : P} → HaveWalked told costs window ceiling left w u q r → HaveWalked told costs window ceiling bs v u p r
    all_walked {u = u} {r = r} rest = record {
      steps = walking.done ++ rest.steps;
      are = walking.goes rest.steps rest.are;
      view = folds_then (Takes ceiling) walking.done rest.steps v w u walking.view rest.view;
      kept = folds_then told walking.done rest.steps p q r walking.kept rest.kept;
    }

    pub ended : left ≡ [] → HaveWalked told costs window ceiling bs v w p q
    ended none =
        all_walked (record { steps = []; are = subst (λ left. AreSteps costs window ceiling left []) (sym none) tt; view = refl; kept = refl })

    pub one_more : {c : Block} {rest : List Block} {u : View} {r : P} → left ≡ c ∷ rest → HasWalked told costs window ceiling c w u q r
        → IsWalking told costs window ceiling bs v p rest u r
    one_more {c = c} {rest = rest} {u = u} {r = r} is child = record {
      done = walking.done ++ child.steps;
      goes = λ more steps.
          subst (AreSteps costs window ceiling bs) (sym (append_assoc walking.done child.steps more))
          (walking.goes (child.steps ++ more) (subst (λ left. AreSteps costs window ceiling left (child.steps ++ more)) (sym is)
          (steps_then costs window ceiling child.steps more (c ∷ []) rest child.are steps)));
      first = λ more steps.
          subst (AreFirstSteps costs window ceiling bs) (sym (append_assoc walking.done child.steps more))
          (walking.first (child.steps ++ more) (subst (λ left. AreFirstSteps costs window ceiling left (child.steps ++ more)) (sym is)
          (first_then costs window ceiling child.steps more (c ∷ []) rest child.are steps)));
      view = folds_then (Takes ceiling) walking.done child.steps v w u walking.view child.view;
      kept = folds_then told walking.done child.steps p q r walking.kept child.kept;
    }

    -- a step of the blocks that were left couldn't be kept
    rest_stopped : {fails : P → P → Type 0} {u : View} {r : P} → HaveStopped told fails costs window ceiling left w u q r
        → HaveStopped told fails costs window ceiling bs v u p r
    rest_stopped rest =
        let gained = gained_steps ceiling walking.done v w walking.view in record {
          steps = walking.done ++ rest.steps;
          are = walking.first rest.steps rest.are;
          kept = (rest.kept.0, folds_then told walking.done rest.steps p q rest.kept.0 walking.kept rest.kept.1, rest.kept.2);
          share = rest.share ∙ gained.share;
          drawn = rest.drawn ∙ gained.drawn;
        }

    -- a step of the next block couldn't be kept
    pub next_stopped : {fails : P → P → Type 0} {c : Block} {rest : List Block} {u : View} {r : P} → left ≡ c ∷ rest
        → HasStopped told fails costs window ceiling c w u q r → HaveStopped told fails costs window ceiling bs v u p r
    next_stopped {c = c} {rest = rest} is child =
        rest_stopped (record {
          steps = child.steps;
          are = subst (λ left. AreFirstSteps costs window ceiling left child.steps) (sym is) (first_further costs window ceiling child.steps (c ∷ []) rest child.are);
          kept = child.kept;
          share = child.share;
          drawn = child.drawn;
        })

  module _ (b : Block) (v w : View) (p q : P) (seen : ℕ) (low : seen ≤ v.floor) (bound : Option ℕ) (is_bound : IsBound costs window b bound)
      (was_told : told p (record { block = b; bound = bound; seen = seen }) q) (is : w ≡ after_limit seen v) where
    pub passed_none : bound ≡ None → HasWalked told costs window ceiling b v w p q
    passed_none none =
        ended (begun b v w p q bound seen is_bound low was_told [] []
        (ap (offered_under (limit_at ceiling seen) b) none) (ap (opened_under (limit_at ceiling seen) b) none) is) refl

    pub passed_above : (n : ℕ) → bound ≡ Some n → limit_at ceiling seen < block_key n b → HasWalked told costs window ceiling b v w p q
    passed_above n some over =
        ended (begun b v w p q bound seen is_bound low was_told [] []
        (ap (offered_under (limit_at ceiling seen) b) some ∙ offered_none (limit_at ceiling seen) n b over)
        (ap (opened_under (limit_at ceiling seen) b) some ∙ opened_none (limit_at ceiling seen) n b over) is) refl

  module _ {b : Block} {v u : View} {p q : P} {bound : Option ℕ} {key : ℕ} (is_bound : IsBound costs window b bound) (opened : HasOpened told ceiling b bound key v u p q) where
    -- a minute that isn't passed over offers its key
    pub offered_minute : {least : ℕ} {w : View} → b.span ≡ Minute → least ≤ u.low → w ≡ after_offer key least u → HasWalked told costs window ceiling b v w p q
    offered_minute {least = least} {w = w} span under is =
        ended (begun b v w p q bound opened.seen is_bound opened.low opened.kept (block_key opened.least b ∷ []) []
        (ap (offered_under (limit_at ceiling opened.seen) b) opened.has
        ∙ (offered_is (limit_at ceiling opened.seen) opened.least b (is_within opened) ∙ ap (λ s. offered_by s (block_key opened.least b)) span))
        (ap (opened_under (limit_at ceiling opened.seen) b) opened.has ∙ (opened_is (limit_at ceiling opened.seen) opened.least b (is_within opened) ∙ ap (λ s. children_by s b) span)) (
          least,
          subst (λ (u : View). least ≤ u.low) opened.view under,
          is ∙ (ap (λ k. after_offer k least u) opened.key_is ∙ ap (after_offer (block_key opened.least b) least) opened.view),
        )) refl

    -- a longer one opens its children
    opened_block : b.span ≢ Minute → IsWalking told costs window ceiling (b ∷ []) v p (children b) u q
    opened_block long =
        begun b v u p q bound opened.seen is_bound opened.low opened.kept [] (children b)
        (ap (offered_under (limit_at ceiling opened.seen) b) opened.has
        ∙ (offered_is (limit_at ceiling opened.seen) opened.least b (is_within opened) ∙ offers_nothing b.span (block_key opened.least b) long))
        (ap (opened_under (limit_at ceiling opened.seen) b) opened.has ∙ opened_is (limit_at ceiling opened.seen) opened.least b (is_within opened)) opened.view

    -- so that it was walked once they were
    pub with_children : {w : View} {r : P} → b.span ≢ Minute → HaveWalked told costs window ceiling (children b) u w q r → HasWalked told costs window ceiling b v w p r
    with_children long rest = all_walked (opened_block long) rest

    pub with_children_stopped : {fails : P → P → Type 0} {w : View} {r : P} → b.span ≢ Minute → HaveStopped told fails costs window ceiling (children b) u w q r
        → HasStopped told fails costs window ceiling b v w p r
    with_children_stopped long rest = rest_stopped (opened_block long) rest
