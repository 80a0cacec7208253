-- Something is due of `board` for all words and contents, and one thing but for the counts of answers.
use Rattle.std.proofs.Common.{◌≡◌, ◌≢◌, ℕ, ◌≤◌, ◌⊎◌, inl, inr, List, [], length, replicate, Ok, Err, refl, sym, ap, ◌∙◌, subst, arith}
use Rattle.std.specs.List.{range_with_len}
use Rattle.std.proofs.lemmas.Bool.{cases_lt}
use Rattle.signal_base.specs.declared.limits.TheConstants.{START_LIMIT}
use Rattle.definitions.specs.heard.Logs.{Records}
use Rattle.definitions.specs.time.Calendar.{century_minutes}
use Rattle.formats.specs.declared.option.OptionName.TheVariants.{Count}
use Rattle.formats.specs.declared.refusal.Refusal.{Refusal}
use Rattle.formats.specs.declared.refusal.Refusal.TheVariants.{WordsBad}
use Rattle.formats.specs.Orders.{Checked, Order}
use Rattle.formats.specs.Orders.Order.{Decode, Check, Feed, Encode, Trial, Follow, Sweep, Judge, Board, Irig, IrigRead}
use Rattle.bank_config.specs.Configuration.{PlainConfig}
use Rattle.due.specs.declared.due.Due.{Due}
use Rattle.due.specs.declared.due.Due.TheVariants.{Refused}
use Rattle.due.specs.declared.status.Status.TheVariants.{Failed, NoMemory}
use Rattle.due.specs.Banks.{Bank, bank_of}
use Rattle.due.specs.Inputs.{Contents, QueriesText}
use Rattle.due.specs.Loads.{IsBankLoaded, IsBankRefused}
use Rattle.due.specs.Orders.{word_refusal}
use Rattle.due.proofs.DueLaws.{IsBankJudged, bank_judged, not_both, one_bank, one_refusal}
use Rattle.due.proofs.StatusLaws.{no_failure_is_due}
use Rattle.follow_due.specs.declared.window_report.WindowReport.{WindowReport}
use Rattle.follow_due.specs.FollowOrders.{FollowOrder, first_window}
use Rattle.follow_due.specs.Windows.{last_start}
use Rattle.follow_due.proofs.ReportLaws.{one_list, some_list}
use Rattle.board_entries.specs.Board.{PlainEntry}
use Rattle.board_due.specs.declared.board_due.BoardDue.{BoardDue}
use Rattle.board_due.specs.declared.board_due.BoardDue.TheVariants as dues
use Rattle.board_due.specs.BoardAnswers.{AreCounts, entries_of}
use Rattle.board_due.specs.BoardDues.{IsBy, board_status, but_for_counts}
use Rattle.board_due.specs.BoardOrders.{AsksBoard, BoardOrder, board_order_in, of_board}
use Rattle.board_due.specs.BoardRules.{Answered, Asked, Bad_bank, Bad_count, Bad_words, IsAnswered, IsBoardDue, IsBoarded, IsInTime, IsLate}
use Rattle.board_due.specs.Queries.{QueriesTold}
use Rattle.board_due.specs.Queries.QueriesTold.{BadLine, Read, TooLarge}
use Rattle.board_due.proofs.BoardOrderLaws.{asked_in_range, is_of_board, one_order}
use Rattle.board_due.proofs.CountLaws.{none_of_any}
use Rattle.board_due.proofs.OutcomeLaws.{something_told, told_once}

-- the same but for the counts
abbrev pub AreAlike : BoardDue → BoardDue → Type 0
AreAlike x y = but_for_counts x ≡ but_for_counts y

alike : (x y u v : BoardDue) → x ≡ u → y ≡ v → AreAlike u v → AreAlike x y
alike x y u v e f same = ap but_for_counts e ∙ (same ∙ sym (ap but_for_counts f))

same_refusal : (r s : Refusal) (x y : BoardDue) → r ≡ s → x ≡ dues.Told (Refused r) → y ≡ dues.Told (Refused s) → AreAlike x y
same_refusal r s x y e f g = alike x y (dues.Told (Refused r)) (dues.Told (Refused s)) f g (ap (λ (t : Refusal). dues.Told (Refused t)) e)

-- one thing is told of a bank by what is told of the queries
one_answered : (o : BoardOrder) (bank : Bank) (told : QueriesTold) (x y : BoardDue) → o.follow.asked.to ≤ century_minutes
    → IsAnswered o bank told x → IsAnswered o bank told y → AreAlike x y
one_answered o bank TooLarge x y century h k = ap but_for_counts (h ∙ sym k)
one_answered o bank (BadLine number) x y century h k = ap but_for_counts (h ∙ sym k)
one_answered o bank (Read queries) x y century (reports, are, (counts, fit, e)) (others, too, (more, also, f)) =
    let same = one_list bank (first_window o.follow bank) o.follow.step (range_with_len 0 o.follow.count) reports others century are too in
    alike x y (dues.Answers (entries_of reports) queries counts) (dues.Answers (entries_of others) queries more) e f
    (ap (λ (rs : List WindowReport). dues.Answers (entries_of rs) queries []) same)

some_answered : (o : BoardOrder) (bank : Bank) (told : QueriesTold) → o.follow.asked.to ≤ century_minutes → (due : BoardDue) × IsAnswered o bank told due
some_answered o bank TooLarge century = (dues.TooLarge, refl)
some_answered o bank (BadLine number) century = (dues.BadLine number, refl)
some_answered o bank (Read queries) century =
    let found = some_list bank (first_window o.follow bank) o.follow.step (range_with_len 0 o.follow.count) century in
    let counts = replicate (length queries) 0 in
    (dues.Answers (entries_of found.0) queries counts, (found.0, found.1, (counts, none_of_any o.readers (entries_of found.0) queries, refl)))

late_or_early : (o : FollowOrder) (bank : Bank) → IsLate o bank → IsInTime o bank → ⊥
late_or_early o bank late early = omega (arith, late, early)

one_boarded : (o : BoardOrder) (bank : Bank) (text : List ℕ) (x y : BoardDue) → o.follow.asked.to ≤ century_minutes
    → IsBoarded o bank text x → IsBoarded o bank text y → AreAlike x y
one_boarded o bank text x y century (Bad_count late e) (Bad_count also f) = ap but_for_counts (e ∙ sym f)
one_boarded o bank text x y century (Bad_count late e) (Asked early told is h) = absurd (late_or_early o.follow bank late early)
one_boarded o bank text x y century (Asked early told is h) (Bad_count late f) = absurd (late_or_early o.follow bank late early)
one_boarded o bank text x y century (Asked early told is h) (Asked too also are k) =
    one_answered o bank also x y century (subst (λ (t : QueriesTold). IsAnswered o bank t x) (told_once text told also is are) h) k

some_boarded : (o : BoardOrder) (bank : Bank) (text : List ℕ) → o.follow.asked.to ≤ century_minutes → (due : BoardDue) × IsBoarded o bank text due
some_boarded o bank text century =
    elim (cases_lt (last_start (first_window o.follow bank) o.follow.step o.follow.count) START_LIMIT) [
      | inl early ↦ (
          let told = something_told text in
          let found = some_answered o bank told.0 century in
          (found.0, Asked early told.0 told.1 found.1))
      | inr late ↦ (dues.Told (Refused (WordsBad Count)), Bad_count late refl)
    ]

-- answers are nothing else
not_told : (es : List PlainEntry) (qs cs : List ℕ) (due : Due) → dues.Answers es qs cs ≡ dues.Told due → ⊥
not_told es qs cs due e = cc

not_large : (es : List PlainEntry) (qs cs : List ℕ) → dues.Answers es qs cs ≡ dues.TooLarge → ⊥
not_large es qs cs e = cc

not_line : (es : List PlainEntry) (qs cs : List ℕ) (number : ℕ) → dues.Answers es qs cs ≡ dues.BadLine number → ⊥
not_line es qs cs number e = cc

same_answers : (es fs : List PlainEntry) (ps qs cs ds : List ℕ) → dues.Answers es ps cs ≡ dues.Answers fs qs ds → (es ≡ fs) × (ps ≡ qs) × (cs ≡ ds)
same_answers es fs ps qs cs ds e = (cc, cc, cc)

made_alike : (es fs : List PlainEntry) (ps qs cs : List ℕ) → es ≡ fs → ps ≡ qs → dues.Answers es ps cs ≡ dues.Answers fs qs cs
made_alike es fs ps qs cs e f = cc

-- other counts will do
other_counts : (o : BoardOrder) (bank : Bank) (text : List ℕ) (entries : List PlainEntry) (queries counts others : List ℕ)
    → IsBoarded o bank text (dues.Answers entries queries counts)
    → AreCounts o.readers entries queries counts × (AreCounts o.readers entries queries others → IsBoarded o bank text (dues.Answers entries queries others))
other_counts o bank text entries queries counts others (Bad_count late e) = absurd (not_told entries queries counts (Refused (WordsBad Count)) e)
other_counts o bank text entries queries counts others (Asked early TooLarge is e) = absurd (not_large entries queries counts e)
other_counts o bank text entries queries counts others (Asked early (BadLine number) is e) = absurd (not_line entries queries counts number e)
other_counts o bank text entries queries counts others (Asked early (Read asked) is (reports, are, (made, fit, e))) =
    let (es, qs, cs) = same_answers entries (entries_of reports) queries asked counts made e in (
      subst (λ (l : List PlainEntry). AreCounts o.readers l queries counts) (sym es)
          (subst (λ (q : List ℕ). AreCounts o.readers (entries_of reports) q counts) (sym qs)
          (subst (λ (c : List ℕ). AreCounts o.readers (entries_of reports) asked c) (sym cs) fit)),
      λ may. Asked early (Read asked) is (
        reports,
        are,
        (
          others,
          subst (λ (l : List PlainEntry). AreCounts o.readers l asked others) es (subst (λ (q : List ℕ). AreCounts o.readers entries q others) qs may),
          made_alike entries (entries_of reports) queries asked others es qs,
        ),
      ),
    )

-- what is due by such counts, from all but them
abbrev with_counts : List ℕ → BoardDue → BoardDue
with_counts live (dues.Told due) = dues.Told due
with_counts live dues.TooLarge = dues.TooLarge
with_counts live (dues.BadLine number) = dues.BadLine number
with_counts live (dues.Answers entries queries counts) = dues.Answers entries queries live

by_counts : (live : List ℕ) (x : BoardDue) → IsBy live x → x ≡ with_counts live (but_for_counts x)
by_counts live (dues.Told due) by = refl
by_counts live dues.TooLarge by = refl
by_counts live (dues.BadLine number) by = refl
by_counts live (dues.Answers entries queries counts) by = ap (dues.Answers entries queries) by

one_by_counts : (live : List ℕ) (x y : BoardDue) → AreAlike x y → IsBy live x → IsBy live y → x ≡ y
one_by_counts live x y alike by also = by_counts live x by ∙ (ap (with_counts live) alike ∙ sym (by_counts live y also))

module _ (contents : Contents) where
  -- what is due for an order, and by what words come to
  abbrev IsDueOfBank : BoardOrder → BoardDue → Type 0
  IsDueOfBank o due =
      ((refusal : Refusal) × IsBankRefused contents refusal × (due ≡ dues.Told (Refused refusal)))
      ⊎ ((config : PlainConfig) × (records : List Records) × IsBankLoaded contents config records × IsBoarded o (bank_of config records) (contents QueriesText) due)

  abbrev IsDueBy : List (List ℕ) → Checked Order → BoardDue → Type 0
  IsDueBy words (Err fault) due = due ≡ dues.Told (Refused (word_refusal fault))
  IsDueBy words (Ok order) due = (o : BoardOrder) × AsksBoard words o × IsDueOfBank o due

  asked : (words : List (List ℕ)) (o : BoardOrder) (due : BoardDue) → AsksBoard words o → IsDueOfBank o due → IsDueBy words (board_order_in words) due
  asked words o due asks h = subst (λ (c : Checked Order). IsDueBy words c due) (sym asks.1) (o, asks, h)

  rule : (words : List (List ℕ)) (due : BoardDue) → IsBoardDue words contents due → IsDueBy words (board_order_in words) due
  rule words due (Bad_words fault is e) = subst (λ (c : Checked Order). IsDueBy words c due) (sym is) e
  rule words due (Bad_bank o asks refusal bad e) = asked words o due asks (inl (refusal, bad, e))
  rule words due (Answered o asks config records loaded told) = asked words o due asks (inr (config, records, loaded, told))

  -- one thing is due
  one_of_bank : (o : BoardOrder) (x y : BoardDue) → o.follow.asked.to ≤ century_minutes → IsDueOfBank o x → IsDueOfBank o y → AreAlike x y
  one_of_bank o x y century (inl h) (inl k) = same_refusal h.0 k.0 x y (one_refusal contents h.0 k.0 h.1 k.1) h.2 k.2
  one_of_bank o x y century (inl h) (inr k) = absurd (not_both contents k.0 k.1 h.0 k.2 h.1)
  one_of_bank o x y century (inr h) (inl k) = absurd (not_both contents h.0 h.1 k.0 h.2 k.1)
  one_of_bank o x y century (inr h) (inr k) =
      one_boarded o (bank_of k.0 k.1) (contents QueriesText) x y century
      (subst (λ (b : Bank). IsBoarded o b (contents QueriesText) x) (one_bank contents h.0 k.0 h.1 k.1 h.2 k.2) h.3) k.3

  one_by : (words : List (List ℕ)) (c : Checked Order) (x y : BoardDue) → IsDueBy words c x → IsDueBy words c y → AreAlike x y
  one_by words (Err fault) x y h k = ap but_for_counts (h ∙ sym k)
  one_by words (Ok order) x y h k =
      one_of_bank k.0 x y (asked_in_range words k.0 k.1).century (subst (λ (o : BoardOrder). IsDueOfBank o x) (one_order words h.0 k.0 h.1 k.1) h.2) k.2

  pub one_board_due : (words : List (List ℕ)) (x y : BoardDue) → IsBoardDue words contents x → IsBoardDue words contents y → AreAlike x y
  one_board_due words x y h k = one_by words (board_order_in words) x y (rule words x h) (rule words y k)

  pub one_board_due_by : (words : List (List ℕ)) (live : List ℕ) (x y : BoardDue) → IsBoardDue words contents x → IsBoardDue words contents y
      → IsBy live x → IsBy live y → x ≡ y
  one_board_due_by words live x y h k = one_by_counts live x y (one_board_due words x y h k)

  -- something is due
  bank_owes : (words : List (List ℕ)) (o : BoardOrder) → AsksBoard words o → (due : BoardDue) × IsBoardDue words contents due
  bank_owes words o asks = go (bank_judged contents)
    where
      go : IsBankJudged contents → (due : BoardDue) × IsBoardDue words contents due
      go (inr bad) = (dues.Told (Refused bad.0), Bad_bank o asks bad.0 bad.1 refl)
      go (inl good) =
          let found = some_boarded o (bank_of good.0 good.1) (contents QueriesText) (asked_in_range words o asks).century in
          (found.0, Answered o asks good.0 good.1 good.2 found.1)

  order_owes : (words : List (List ℕ)) (order : Order) → board_order_in words ≡ Ok order → of_board order ≡ Ok order → (due : BoardDue) × IsBoardDue words contents due
  order_owes words (Board config queries asked workers step count readers) is of =
      bank_owes words (record { follow = record { config = config; asked = asked; step = step; count = count }; queries = queries; readers = readers }) (workers, is)
  order_owes words (Decode config asked workers certificate) is of = absurd cc
  order_owes words (Check config certificate asked) is of = absurd cc
  order_owes words (Feed config asked workers) is of = absurd cc
  order_owes words (Encode station minute announced) is of = absurd cc
  order_owes words (Trial number workers) is of = absurd cc
  order_owes words (Follow config asked workers step count) is of = absurd cc
  order_owes words (Sweep config asked workers certificate) is of = absurd cc
  order_owes words (Judge config certificate asked) is of = absurd cc
  order_owes words (Irig config asked workers) is of = absurd cc
  order_owes words (IrigRead file) is of = absurd cc

  pub some_board_due : (words : List (List ℕ)) → (due : BoardDue) × IsBoardDue words contents due
  some_board_due words = go (board_order_in words) refl
    where
      go : (c : Checked Order) → board_order_in words ≡ c → (due : BoardDue) × IsBoardDue words contents due
      go (Err fault) is = (dues.Told (Refused (word_refusal fault)), Bad_words fault is refl)
      go (Ok order) is = order_owes words order is (is_of_board words order is).1

  -- the counts that answers are due by are free
  pub counts_are_free : (words : List (List ℕ)) (o : BoardOrder) (entries : List PlainEntry) (queries counts others : List ℕ) → AsksBoard words o
      → IsBoardDue words contents (dues.Answers entries queries counts)
      → AreCounts o.readers entries queries counts × (AreCounts o.readers entries queries others → IsBoardDue words contents (dues.Answers entries queries others))
  counts_are_free words o entries queries counts others asks (Bad_words fault is e) = absurd (not_told entries queries counts (Refused (word_refusal fault)) e)
  counts_are_free words o entries queries counts others asks (Bad_bank p also refusal bad e) = absurd (not_told entries queries counts (Refused refusal) e)
  counts_are_free words o entries queries counts others asks (Answered p also config records loaded told) =
      let same = one_order words p o also asks in
      let free = other_counts o (bank_of config records) (contents QueriesText) entries queries counts others
      (subst (λ (q : BoardOrder). IsBoarded q (bank_of config records) (contents QueriesText) (dues.Answers entries queries counts)) same told) in
      (free.0, λ may. Answered o asks config records loaded (free.1 may))

-- no failure is due
pub no_board_failure_is_due : (due : BoardDue) → (board_status due ≢ Failed) × (board_status due ≢ NoMemory)
no_board_failure_is_due (dues.Told due) = no_failure_is_due due
no_board_failure_is_due dues.TooLarge = (λ e. cc, λ e. cc)
no_board_failure_is_due (dues.BadLine number) = (λ e. cc, λ e. cc)
no_board_failure_is_due (dues.Answers entries queries counts) = (λ e. cc, λ e. cc)
