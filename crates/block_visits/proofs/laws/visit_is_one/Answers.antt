-- Visits by the same reads offer the same keys, since a bound is one.
use Rattle.std.proofs.Common.{◌≡◌, ℕ, List, [], ◌∷◌, ◌++◌, Option, sym, ap, ◌∙◌, subst}
use Rattle.signal_base.specs.declared.window.Window.{Window}
use Rattle.definitions.specs.declared.block.Block.{Block}
use Rattle.definitions.specs.heard.Costs.{Costs}
use Rattle.definitions.specs.answers.Blocks.{IsBound}
use Rattle.block_visits.specs.Visits.{limit_at, offered_under, opened_under, AreVisits}
use Rattle.block_visits.proofs.laws.visit_is_one.Goals as goal

same_keys : (costs : Costs) (window : Window) (ceiling : ℕ)
    → ((b : Block) (m n : Option ℕ) → IsBound costs window b m → IsBound costs window b n → m ≡ n)
    → (reads : List ℕ) (bs : List Block) (keys others : List ℕ)
    → AreVisits costs window ceiling bs reads keys → AreVisits costs window ceiling bs reads others → keys ≡ others
same_keys costs window ceiling one [] [] keys others v w = v ∙ sym w
same_keys costs window ceiling one [] (b ∷ bs) keys others v w = absurd v
same_keys costs window ceiling one (seen ∷ reads) [] keys others v w = absurd v
same_keys costs window ceiling one (seen ∷ reads) (b ∷ bs) keys others v w =
    let limit = limit_at ceiling seen in
    let same : v.0 ≡ w.0 = one b v.0 w.0 v.2 w.2 in
    let rest = subst (λ bound. AreVisits costs window ceiling (opened_under limit b bound ++ bs) reads v.1) same v.4 in
    v.3
    ∙ (ap (λ bound. offered_under limit b bound ++ v.1) same
    ∙ (ap (λ ks. offered_under limit b w.0 ++ ks) (same_keys costs window ceiling one reads (opened_under limit b w.0 ++ bs) v.1 w.1 rest w.4) ∙ sym w.3))

pub returns : goal.returns
returns c costs window ceiling bs reads =
    same_keys costs window ceiling (λ b. c.bound_is_one.ensures.bound costs window b) reads bs
