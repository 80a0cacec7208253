-- The year of the examples has the bound of its hour, since it has the same sequences; and a certificate of one line is judged by it.
use Rattle.std.proofs.Common.{◌≡◌, ℕ, inl, inr, ◌≤◌, [], length, Some, None, refl, arith}
use Rattle.signal_base.specs.declared.station.Station.{Station}
use Rattle.signal_base.specs.declared.window.Window.{Window}
use Rattle.definitions.specs.declared.block.Block.{Block}
use Rattle.definitions.specs.declared.block.Span.TheVariants.{Year, Hour}
use Rattle.definitions.specs.declared.sequence.Sequence.{Sequence}
use Rattle.definitions.specs.heard.Costs.{Costs}
use Rattle.definitions.specs.answers.Blocks.{IsBound, IsIn, IsUnion, IsUnionBound, items}
use Rattle.definitions.specs.examples.Sequences.{costs_by_symbol}
use Rattle.definitions.proofs.ItemLaws.{items_are_years}
use Rattle.formats.specs.Refusals.{CertificateFault}
use Rattle.certificates.specs.declared.certificate.Line.{Line}
use Rattle.certificates.specs.declared.limits.TheConstants.{CERTIFICATE_LIMIT}
use Rattle.certificates.specs.declared.verdict.Verdict.{Verdict}
use Rattle.certificates.specs.Certificates.{IsLine}
use Rattle.certificates.specs.Texts.{IsText, certificate_text}
use Rattle.certificates.specs.Validity.{limit_named}
use Rattle.certificates.specs.Verdicts.{IsDue, IsWrong}
use Rattle.certificates.specs.Judged.{IsBadCertificate, verdict_fault}
use Rattle.certificates.specs.Examples.{hour, one_step, two_minutes, year}
use Rattle.certificates.proofs.ExampleLaws.{in_range}
use Rattle.certificates.proofs.FoundLaws.{one_has}

-- blocks with the same sequences have the same bounds
module _ (costs : Costs) (window : Window) (a b : Block) (to : (q : Sequence) → IsIn a q → IsIn b q) (back : (q : Sequence) → IsIn b q → IsIn a q) where
  same_union : (station : Station) (k set : ℕ) → IsUnion window a station k set → IsUnion window b station k set
  same_union station k set is = record {
    byte = is.byte;
    each = λ x h. is.each x (h.0, back h.0 h.1, h.2, h.3);
    only = λ x h. let carries = is.only x h in (carries.0, to carries.0 carries.1, carries.2, carries.3);
  }

  same_bound : (n : ℕ) → IsUnionBound costs window a (Some n) → IsUnionBound costs window b (Some n)
  same_bound n is = (
    (is.0.0, to is.0.0 is.0.1, is.0.2),
    record { unions = is.1.unions; each = λ station k has lt. same_union station k (is.1.unions station k) (is.1.each station k has lt); cost = is.1.cost },
  )

pub year_bound : (n : ℕ) → IsBound costs_by_symbol two_minutes hour (Some n) → IsBound costs_by_symbol two_minutes year (Some n)
year_bound n is =
    same_bound costs_by_symbol two_minutes hour year
    (λ q h. record { announced = h.announced; second = h.second; not_before = h.not_before; before_end = h.before_end })
    (λ q h. record { announced = h.announced; second = h.second; not_before = h.not_before; before_end = h.before_end }) n is

-- a year is due first, and no hour is
hour_or_year : Hour ≡ Year → ⊥
hour_or_year e = absurd cc

pub hour_is_not_due : IsDue two_minutes [] [] hour → ⊥
hour_is_not_due is = hour_or_year (one_has (λ b. b.span ≡ Year) (items two_minutes) hour (items_are_years two_minutes (omega arith)) is.0)

-- what is told of a certificate whose one line is wrong
pub told_of_one : (l : Line) (v : Verdict) (fault : CertificateFault) → IsLine l → length (certificate_text (one_step l)) ≤ CERTIFICATE_LIMIT
    → IsWrong costs_by_symbol two_minutes (limit_named 1_000 None) 1 [] [] l v → verdict_fault v ≡ Some fault
    → IsBadCertificate costs_by_symbol two_minutes 1_000 (certificate_text (one_step l)) fault
told_of_one l v fault is few wrong tells =
    let text : IsText (one_step l) (certificate_text (one_step l)) = record {
      spelled = record {
        window = in_range 4 700 702 (omega arith) (omega arith) (omega arith) (omega arith);
        ceiling = omega arith;
        first = tt;
        second = tt;
        some_part = omega arith;
        few_parts = omega arith;
        lines = (is, tt);
      };
      few = omega arith;
      same = refl;
    } in
    inr (inr (few, one_step l, v, text, inr ((refl, refl), inl wrong), tells))
