-- Each certificate that can be written has one verdict, and it is certified exactly where it is valid.
use Rattle.std.proofs.Common.{◌≡◌, ℕ, zero, suc, ◌+◌, inl, inr, Bool, true, false, List, [], ◌∷◌, Option, Some, None, refl, sym, ap, ◌∙◌, subst, ⊎_elim}
use Rattle.std.specs.List.{AllByRecursion}
use Rattle.std.proofs.lemmas.Bool.{cases_eq}
use Rattle.signal_base.specs.declared.window.Window.{Window}
use Rattle.definitions.specs.declared.block.Block.{Block}
use Rattle.definitions.specs.declared.block.Span.{Span}
use Rattle.definitions.specs.declared.block.Span.TheVariants.{Year, Day, Hour, Minute}
use Rattle.definitions.specs.heard.Costs.{Costs}
use Rattle.definitions.specs.answers.Blocks.{IsBound, block_key, items}
use Rattle.definitions.proofs.ExistLaws.{Decided, decide_both, decide_le}
use Rattle.certificates.proofs.ListLaws.{decide_not}
use Rattle.certificates.specs.declared.certificate.Kind.{Kind}
use Rattle.certificates.specs.declared.certificate.Kind.TheVariants.{Opened, Pruned, Empty, Leaf}
use Rattle.certificates.specs.declared.certificate.Line.{Line}
use Rattle.certificates.specs.declared.verdict.Verdict.{Verdict}
use Rattle.certificates.specs.declared.verdict.Verdict.TheVariants.{Certified, OtherWindow, Uncovered, WrongBound, NotAbove, WrongEnds}
use Rattle.certificates.specs.Certificates.{Certificate, IsLine, IsSpelled, lines_of}
use Rattle.certificates.specs.Validity.{IsAbove, IsOneOf, IsOver, IsValid, leaf_ends, limit_named}
use Rattle.certificates.specs.Verdicts.{AreGood, AreOver, IsDue, IsFound, IsOf, IsOfEnds, IsRight, IsVerdict, IsWrong, begun_with, due_after}
use Rattle.block_visits.specs.Apart.{key_if_any}
use Rattle.certificates.proofs.GoodLaws.{good_are_walks, walks_are_good}

-- what a verdict asks can be decided
decide_bool : (a b : Bool) → Decided (a ≡ b)
decide_bool true true = inl refl
decide_bool true false = inr (λ e. absurd cc)
decide_bool false true = inr (λ e. absurd cc)
decide_bool false false = inl refl

abbrev number : Span → ℕ
number Year = 0
number Day = 1
number Hour = 2
number Minute = 3

abbrev span_at : ℕ → Span
span_at zero = Year
span_at (suc zero) = Day
span_at (suc (suc zero)) = Hour
span_at (suc (suc (suc n))) = Minute

span_is : (s : Span) → span_at (number s) ≡ s
span_is Year = refl
span_is Day = refl
span_is Hour = refl
span_is Minute = refl

decide_span : (a b : Span) → Decided (a ≡ b)
decide_span a b = put (cases_eq (number a) (number b))
  where
    put : Decided (number a ≡ number b) → Decided (a ≡ b)
    put (inl e) = inl (sym (span_is a) ∙ (ap span_at e ∙ span_is b))
    put (inr n) = inr (λ e. n (ap number e))

decide_block : (a b : Block) → Decided (a ≡ b)
decide_block a b =
    put (decide_both (decide_bool a.announced b.announced) (decide_both (cases_eq a.second b.second)
    (decide_both (decide_span a.span b.span) (decide_both (cases_eq a.lo b.lo) (cases_eq a.hi b.hi)))))
  where
    put : Decided ((a.announced ≡ b.announced) × ((a.second ≡ b.second) × ((a.span ≡ b.span) × ((a.lo ≡ b.lo) × (a.hi ≡ b.hi))))) → Decided (a ≡ b)
    put (inl h) = inl (λ i. record { announced = h.0 i; second = h.1.0 i; span = h.1.1.0 i; lo = h.1.1.1.0 i; hi = h.1.1.1.1 i })
    put (inr n) = inr (λ e. n (
      ap (λ (x : Block). x.announced) e,
      (
        ap (λ (x : Block). x.second) e,
        (ap (λ (x : Block). x.span) e, (ap (λ (x : Block). x.lo) e, ap (λ (x : Block). x.hi) e)),
      ),
    ))

decide_one_of : (bs : List Block) (b : Block) → Decided (IsOneOf bs b)
decide_one_of [] b = inr (λ is. is)
decide_one_of (c ∷ cs) b = put (decide_block c b) (decide_one_of cs b)
  where
    put : Decided (c ≡ b) → Decided (IsOneOf cs b) → Decided (IsOneOf (c ∷ cs) b)
    put (inl e) rest = inl (inl e)
    put (inr n) (inl is) = inl (inr is)
    put (inr n) (inr m) = inr (λ is. ⊎_elim n m is)

decide_all : (cs bs : List Block) → Decided (AllByRecursion (IsOneOf cs) bs)
decide_all cs [] = inl tt
decide_all cs (b ∷ bs) = decide_both (decide_one_of cs b) (decide_all cs bs)

decide_option : (v w : Option ℕ) → Decided (v ≡ w)
decide_option None None = inl refl
decide_option None (Some n) = inr (λ e. absurd cc)
decide_option (Some m) None = inr (λ e. absurd cc)
decide_option (Some m) (Some n) = put (cases_eq m n)
  where
    put : Decided (m ≡ n) → Decided (Some m ≡ Some n)
    put (inl e) = inl (ap Some e)
    put (inr other) = inr (λ e. other (cc))

decide_due : (window : Window) (due begun : List Block) (b : Block) → Decided (IsDue window due begun b)
decide_due window [] begun b = decide_both (decide_one_of (items window) b) (decide_not (decide_one_of begun b))
decide_due window (d ∷ due) begun b = decide_block b d

decide_over : (window : Window) (due begun : List Block) → Decided (AreOver window due begun)
decide_over window [] begun = decide_both (inl refl) (decide_all begun (items window))
decide_over window (d ∷ due) begun = inr (λ h. absurd (none h.0))
  where
    none : (d ∷ due) ≡ [] → ⊥
    none e = absurd cc

decide_key : (limit : ℕ) (b : Block) (bound : Option ℕ) → Decided (IsOver limit b bound)
decide_key limit b None = inl tt
decide_key limit b (Some n) = decide_le (suc limit) (block_key n b)

decide_above : (limit : ℕ) (kind : Kind) (b : Block) (bound : Option ℕ) → Decided (IsAbove limit kind b bound)
decide_above limit Opened b bound = inl tt
decide_above limit Pruned b bound = decide_key limit b bound
decide_above limit Empty b bound = inl tt
decide_above limit Leaf b bound = inl tt

-- the named keys
ends_exist : (first second true_first true_second : Option ℕ) → (v : Verdict) × IsOfEnds first second true_first true_second v
ends_exist first second f s = put (decide_option first f) (decide_option second s)
  where
    put : Decided (first ≡ f) → Decided (second ≡ s) → (v : Verdict) × IsOfEnds first second f s v
    put (inr n) d = (WrongEnds f, inl (n, refl))
    put (inl e) (inr n) = (WrongEnds s, inr (inl (e, n, refl)))
    put (inl e) (inl d) = (Certified, inr (inr (e, d, refl)))

ends_once : (first second f s : Option ℕ) (v w : Verdict) → IsOfEnds first second f s v → IsOfEnds first second f s w → v ≡ w
ends_once first second f s v w (inl h) (inl k) = h.1 ∙ sym k.1
ends_once first second f s v w (inl h) (inr (inl k)) = absurd (h.0 k.0)
ends_once first second f s v w (inl h) (inr (inr k)) = absurd (h.0 k.0)
ends_once first second f s v w (inr (inl h)) (inl k) = absurd (k.0 h.0)
ends_once first second f s v w (inr (inl h)) (inr (inl k)) = h.2 ∙ sym k.2
ends_once first second f s v w (inr (inl h)) (inr (inr k)) = absurd (h.1 k.1)
ends_once first second f s v w (inr (inr h)) (inl k) = absurd (k.0 h.0)
ends_once first second f s v w (inr (inr h)) (inr (inl k)) = absurd (k.1 h.1)
ends_once first second f s v w (inr (inr h)) (inr (inr k)) = h.2 ∙ sym k.2

ends_certify : (first second f s : Option ℕ) → IsOfEnds first second f s Certified → (first ≡ f) × (second ≡ s)
ends_certify first second f s (inl h) = absurd (none h.1)
  where
    none : Certified ≡ WrongEnds f → ⊥
    none e = absurd cc
ends_certify first second f s (inr (inl h)) = absurd (none h.2)
  where
    none : Certified ≡ WrongEnds s → ⊥
    none e = absurd cc
ends_certify first second f s (inr (inr h)) = (h.0, h.1)

module _ (costs : Costs) (window : Window) (some_bound : (b : Block) → (m : Option ℕ) × IsBound costs window b m)
    (one_bound : (b : Block) (m n : Option ℕ) → IsBound costs window b m → IsBound costs window b n → m ≡ n) where
  decide_bound : (b : Block) (n : Option ℕ) → Decided (IsBound costs window b n)
  decide_bound b n = put (decide_option (some_bound b).0 n)
    where
      put : Decided ((some_bound b).0 ≡ n) → Decided (IsBound costs window b n)
      put (inl e) = inl (subst (IsBound costs window b) e (some_bound b).1)
      put (inr other) = inr (λ is. other (one_bound b (some_bound b).0 n (some_bound b).1 is))

  module _ (limit : ℕ) (ends : Verdict → Type 0) where
    abbrev Finds : ℕ → List Block → List Block → List Line → Verdict → Type 0
    Finds = IsFound costs window limit ends

    find : (ends_some : (v : Verdict) × ends v) (ls : List Line) (step : ℕ) (due begun : List Block) → (v : Verdict) × Finds step due begun ls v
    find ends_some [] step due begun = put (decide_over window due begun)
      where
        put : Decided (AreOver window due begun) → (v : Verdict) × Finds step due begun [] v
        put (inl over) = (ends_some.0, inl (over, ends_some.1))
        put (inr n) = (Uncovered step, inr (n, refl))
    find ends_some (l ∷ ls) step due begun =
        put (decide_due window due begun l.block) (decide_bound l.block l.bound) (decide_above limit l.kind l.block l.bound)
        (find ends_some ls (step + 1) (due_after due l) (begun_with due begun l.block))
      where
        put : Decided (IsDue window due begun l.block) → Decided (IsBound costs window l.block l.bound) → Decided (IsAbove limit l.kind l.block l.bound)
            → ((v : Verdict) × Finds (step + 1) (due_after due l) (begun_with due begun l.block) ls v) → (v : Verdict) × Finds step due begun (l ∷ ls) v
        put (inr n) b a rest = (Uncovered step, inl (inl (n, refl)))
        put (inl d) (inr n) a rest = (WrongBound step, inl (inr (inl (d, n, refl))))
        put (inl d) (inl b) (inr n) rest = (NotAbove step, inl (inr (inr (d, b, n, refl))))
        put (inl d) (inl b) (inl a) rest = (rest.0, inr (record { due_is = d; bound = b; above = a }, rest.1))

    wrong_once : (step : ℕ) (due begun : List Block) (l : Line) (v w : Verdict) → IsWrong costs window limit step due begun l v → IsWrong costs window limit step due begun l w → v ≡ w
    wrong_once step due begun l v w (inl h) (inl k) = h.1 ∙ sym k.1
    wrong_once step due begun l v w (inl h) (inr (inl k)) = absurd (h.0 k.0)
    wrong_once step due begun l v w (inl h) (inr (inr k)) = absurd (h.0 k.0)
    wrong_once step due begun l v w (inr (inl h)) (inl k) = absurd (k.0 h.0)
    wrong_once step due begun l v w (inr (inl h)) (inr (inl k)) = h.2 ∙ sym k.2
    wrong_once step due begun l v w (inr (inl h)) (inr (inr k)) = absurd (h.1 k.1)
    wrong_once step due begun l v w (inr (inr h)) (inl k) = absurd (k.0 h.0)
    wrong_once step due begun l v w (inr (inr h)) (inr (inl k)) = absurd (k.1 h.1)
    wrong_once step due begun l v w (inr (inr h)) (inr (inr k)) = h.3 ∙ sym k.3

    not_right : (step : ℕ) (due begun : List Block) (l : Line) (v : Verdict) → IsWrong costs window limit step due begun l v → IsRight costs window limit due begun l → ⊥
    not_right step due begun l v (inl h) right = h.0 right.due_is
    not_right step due begun l v (inr (inl h)) right = h.1 right.bound
    not_right step due begun l v (inr (inr h)) right = h.2 right.above

    found_once : ((v w : Verdict) → ends v → ends w → v ≡ w) → (ls : List Line) (step : ℕ) (due begun : List Block) (v w : Verdict)
        → Finds step due begun ls v → Finds step due begun ls w → v ≡ w
    found_once one [] step due begun v w (inl h) (inl k) = one v w h.1 k.1
    found_once one [] step due begun v w (inl h) (inr k) = absurd (k.0 h.0)
    found_once one [] step due begun v w (inr h) (inl k) = absurd (h.0 k.0)
    found_once one [] step due begun v w (inr h) (inr k) = h.1 ∙ sym k.1
    found_once one (l ∷ ls) step due begun v w (inl h) (inl k) = wrong_once step due begun l v w h k
    found_once one (l ∷ ls) step due begun v w (inl h) (inr k) = absurd (not_right step due begun l v h k.0)
    found_once one (l ∷ ls) step due begun v w (inr h) (inl k) = absurd (not_right step due begun l w k h.0)
    found_once one (l ∷ ls) step due begun v w (inr h) (inr k) =
        found_once one ls (step + 1) (due_after due l) (begun_with due begun l.block) v w h.1 k.1

    -- certified: no line is wrong
    not_wrong : (step : ℕ) (due begun : List Block) (l : Line) → IsWrong costs window limit step due begun l Certified → ⊥
    not_wrong step due begun l (inl h) = none h.1
      where
        none : Certified ≡ Uncovered step → ⊥
        none e = absurd cc
    not_wrong step due begun l (inr (inl h)) = none h.2
      where
        none : Certified ≡ WrongBound step → ⊥
        none e = absurd cc
    not_wrong step due begun l (inr (inr h)) = none h.3
      where
        none : Certified ≡ NotAbove step → ⊥
        none e = absurd cc

    certified_good : (ls : List Line) (step : ℕ) (due begun : List Block) → AllByRecursion IsLine ls → Finds step due begun ls Certified
        → AreGood costs window limit due begun ls × ends Certified
    certified_good [] step due begun lines (inl h) = h
    certified_good [] step due begun lines (inr h) = absurd (none h.1)
      where
        none : Certified ≡ Uncovered step → ⊥
        none e = absurd cc
    certified_good (l ∷ ls) step due begun lines (inl h) = absurd (not_wrong step due begun l h)
    certified_good (l ∷ ls) step due begun lines (inr h) =
        let rest = certified_good ls (step + 1) (due_after due l) (begun_with due begun l.block) lines.1 h.1 in
        let first = lines.0 in
        ((h.0.due_is, record { shape = first.shape; bound = h.0.bound; above = h.0.above }, rest.0), rest.1)

    good_certified : (ls : List Line) (step : ℕ) (due begun : List Block) → AreGood costs window limit due begun ls → ends Certified → Finds step due begun ls Certified
    good_certified [] step due begun over e = inl (over, e)
    good_certified (l ∷ ls) step due begun good e =
        inr (
          record { due_is = good.0; bound = good.1.bound; above = good.1.above },
          good_certified ls (step + 1) (due_after due l) (begun_with due begun l.block) good.2 e,
        )

  module _ (ceiling : ℕ) (c : Certificate) where
    abbrev Named : Verdict → Type 0
    Named = IsOfEnds c.head.first c.head.second (key_if_any (leaf_ends ceiling (lines_of c)).least) (key_if_any (leaf_ends ceiling (lines_of c)).second)

    limit_is : ℕ
    limit_is = limit_named ceiling c.head.second

    pub one_verdict : (v w : Verdict) → IsVerdict costs window ceiling c v → IsVerdict costs window ceiling c w → v ≡ w
    one_verdict v w (inl h) (inl k) = h.1 ∙ sym k.1
    one_verdict v w (inl h) (inr k) = absurd (h.0 k.0)
    one_verdict v w (inr h) (inl k) = absurd (k.0 h.0)
    one_verdict v w (inr h) (inr k) =
        found_once (limit_named ceiling c.head.second) Named (ends_once c.head.first c.head.second _ _) (lines_of c) 1 [] [] v w h.1 k.1

    pub some_verdict : Decided (IsOf window ceiling c) → (v : Verdict) × IsVerdict costs window ceiling c v
    some_verdict (inr n) = (OtherWindow, inl (n, refl))
    some_verdict (inl of) =
        let found = find (limit_named ceiling c.head.second) Named (ends_exist c.head.first c.head.second _ _) (lines_of c) 1 [] [] in
        (found.0, inr (of, found.1))

    pub certified_valid : IsSpelled c → IsVerdict costs window ceiling c Certified → IsValid costs window ceiling c
    certified_valid spelled (inl h) = absurd (none h.1)
      where
        none : Certified ≡ OtherWindow → ⊥
        none e = absurd cc
    certified_valid spelled (inr h) =
        let good = certified_good (limit_named ceiling c.head.second) Named (lines_of c) 1 [] [] spelled.lines h.1 in
        let walks = good_are_walks costs window (limit_named ceiling c.head.second) (lines_of c) good.0 in
        let ends = ends_certify c.head.first c.head.second _ _ good.1 in
        record {
          spelled = spelled;
          window_is = h.0.0;
          ceiling_is = h.0.1;
          shows = record { blocks = walks.0; each = walks.1; walks = walks.2; first_is = ends.0; second_is = ends.1 };
        }

    pub valid_certified : IsValid costs window ceiling c → IsVerdict costs window ceiling c Certified
    valid_certified valid =
        let shows = valid.shows in
        inr (
          (valid.window_is, valid.ceiling_is),
          good_certified (limit_named ceiling c.head.second) Named (lines_of c) 1 [] []
              (walks_are_good costs window (limit_named ceiling c.head.second) shows.blocks (lines_of c) shows.each shows.walks)
              (inr (inr (shows.first_is, shows.second_is, refl))),
        )

-- windows can be told apart
decide_window : (v w : Window) → Decided (v ≡ w)
decide_window v w =
    put (decide_both (cases_eq v.stations.mask w.stations.mask) (decide_both (cases_eq v.start w.start) (decide_both (cases_eq v.phase w.phase)
    (decide_both (cases_eq v.seconds w.seconds) (decide_both (cases_eq v.from w.from) (cases_eq v.to w.to))))))
  where
    put : Decided ((v.stations.mask ≡ w.stations.mask) × ((v.start ≡ w.start) × ((v.phase ≡ w.phase) × ((v.seconds ≡ w.seconds) × ((v.from ≡ w.from) × (v.to ≡ w.to))))))
        → Decided (v ≡ w)
    put (inl h) = inl (λ i. record { stations = record { mask = h.0 i }; start = h.1.0 i; phase = h.1.1.0 i; seconds = h.1.1.1.0 i; from = h.1.1.1.1.0 i; to = h.1.1.1.1.1 i })
    put (inr n) = inr (λ e. n (
      ap (λ (x : Window). x.stations.mask) e,
      (
        ap (λ (x : Window). x.start) e,
        (
          ap (λ (x : Window). x.phase) e,
          (ap (λ (x : Window). x.seconds) e, (ap (λ (x : Window). x.from) e, ap (λ (x : Window). x.to) e)),
        ),
      ),
    ))

pub decide_of : (window : Window) (ceiling : ℕ) (c : Certificate) → Decided (IsOf window ceiling c)
decide_of window ceiling c = decide_both (decide_window c.head.window window) (cases_eq c.head.ceiling ceiling)
