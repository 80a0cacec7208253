-- The texts of windows, one after the other.
use Rattle.std.proofs.Common.{◌≡◌, ℕ, ◌+◌, ◌<◌, List, [], ◌∷◌, ◌++◌, length, take, drop, get_or, Ok, Err, sym, ap, ◌∙◌, subst, append-nil}
use Rattle.std.proofs.lemmas.Grind.{flat_map-append}
use Rattle.std.proofs.lemmas.List.{take_more, take-append-drop}
use Rattle.bank_files.specs.Told.{output_name}
use Rattle.bank_files.specs.Seen.{Seen, Writes}
use Rattle.bank_files.proofs.Chaining.{Writes-failed, Writes-then}
use Rattle.follow_due.specs.declared.window_report.WindowReport.{WindowReport}
use Rattle.follow_due.specs.FollowDues.{window_text, windows_text}

-- one more window
one_more : (reports : List WindowReport) (k : ℕ) (told : WindowReport) → k < length reports → told ≡ get_or reports k told
    → windows_text (take (k + 1) reports) ≡ windows_text (take k reports) ++ window_text told
one_more reports k told within is =
    ap windows_text (take_more reports k told within)
    ∙ (flat_map-append window_text (take k reports) (get_or reports k told ∷ [])
    ∙ (ap (λ l. windows_text (take k reports) ++ l) (append-nil (window_text (get_or reports k told)))
    ∙ ap (λ (r : WindowReport). windows_text (take k reports) ++ window_text r) (sym is)))

-- and what comes behind
rest_of : (reports : List WindowReport) (k : ℕ) → windows_text (take k reports) ++ windows_text (drop k reports) ≡ windows_text reports
rest_of reports k = sym (flat_map-append window_text (take k reports) (drop k reports)) ∙ ap windows_text (take-append-drop k reports)

module _ {E : Type 0} (reports : List WindowReport) (k : ℕ) (old mid new : Seen) (told : WindowReport) (within : k < length reports)
    (is : told ≡ get_or reports k told) (so_far : Writes {E = E} output_name old mid (windows_text (take k reports)) (Ok tt)) where
  pub window_goes_on : Writes {E = E} output_name mid new (window_text told) (Ok tt)
      → Writes {E = E} output_name old new (windows_text (take (k + 1) reports)) (Ok tt)
  window_goes_on written =
      subst (λ (text : List ℕ). Writes {E = E} output_name old new text (Ok tt)) (sym (one_more reports k told within is))
      (Writes-then {E = E} output_name old mid new (windows_text (take k reports)) (window_text told) (Ok tt) so_far written)

  -- or a front of it, which is a front of the whole
  pub window_fails : (e : E) → Writes output_name mid new (window_text told) (Err e)
      → Writes output_name old new (windows_text reports) (Err e)
  window_fails e written =
      subst (λ (text : List ℕ). Writes output_name old new text (Err e)) (rest_of reports (k + 1))
      (Writes-failed output_name old new (windows_text (take (k + 1) reports)) (windows_text (drop (k + 1) reports)) e
      (subst (λ (text : List ℕ). Writes output_name old new text (Err e)) (sym (one_more reports k told within is))
      (Writes-then output_name old mid new (windows_text (take k reports)) (window_text told) (Err e) so_far written)))
