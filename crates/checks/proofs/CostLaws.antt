-- What is found of a certificate by costs is found by all that agree with them.
use Rattle.std.proofs.Common.{◌≡◌, ℕ, ◌+◌, inl, inr, List, [], ◌∷◌, Option, sym}
use Rattle.signal_base.specs.declared.window.Window.{Window}
use Rattle.definitions.specs.declared.block.Block.{Block}
use Rattle.definitions.specs.declared.block.Span.{Span}
use Rattle.definitions.specs.declared.block.Span.TheVariants.{Year, Day, Hour, Minute}
use Rattle.definitions.specs.heard.Costs.{Costs}
use Rattle.definitions.specs.answers.Blocks.{IsBound, IsBoundBy}
use Rattle.formats.specs.Refusals.{CertificateFault}
use Rattle.certificates.specs.declared.certificate.Line.{Line}
use Rattle.certificates.specs.declared.verdict.Verdict.{Verdict}
use Rattle.certificates.specs.Certificates.{Certificate, lines_of}
use Rattle.certificates.specs.Judged.{IsBadCertificate, IsGoodCertificate}
use Rattle.certificates.specs.Validity.{limit_named}
use Rattle.certificates.specs.Verdicts.{IsFound, IsVerdict, IsWrong, begun_with, due_after}
use Rattle.plain_costs.specs.Agreement.{AgreeOn}
use Rattle.field_tables.proofs.LegalLaws.{bound_agrees}
use Rattle.field_tables.proofs.UnionBoundLaws.{bound_same}
use Rattle.bank.proofs.CertifiedLaws.{walks_by_others}

bound_by : (window : Window) (costs others : Costs) → AgreeOn window costs others → (span : Span) (b : Block) (bound : Option ℕ)
    → IsBoundBy span costs window b bound → IsBoundBy span others window b bound
bound_by window costs others agree Year b bound is = bound_same window costs others b bound agree is
bound_by window costs others agree Day b bound is = bound_same window costs others b bound agree is
bound_by window costs others agree Hour b bound is = bound_same window costs others b bound agree is
bound_by window costs others agree Minute b bound is = bound_agrees window costs others b bound agree is

module _ (window : Window) (costs others : Costs) (agree : AgreeOn window costs others) where
  there : (b : Block) (bound : Option ℕ) → IsBound costs window b bound → IsBound others window b bound
  there b bound is = bound_by window costs others agree b.span b bound is

  back : (b : Block) (bound : Option ℕ) → IsBound others window b bound → IsBound costs window b bound
  back b bound is = bound_by window others costs (λ station k x heard below few. sym (agree station k x heard below few)) b.span b bound is

  wrong_by : (limit step : ℕ) (due begun : List Block) (l : Line) (v : Verdict) → IsWrong costs window limit step due begun l v → IsWrong others window limit step due begun l v
  wrong_by limit step due begun l v (inl h) = inl h
  wrong_by limit step due begun l v (inr (inl h)) = inr (inl (h.0, (λ is. h.1 (back l.block l.bound is)), h.2))
  wrong_by limit step due begun l v (inr (inr h)) = inr (inr (h.0, there l.block l.bound h.1, h.2, h.3))

  found_by : (limit : ℕ) (ends : Verdict → Type 0) (step : ℕ) (due begun : List Block) (ls : List Line) (v : Verdict) → IsFound costs window limit ends step due begun ls v
      → IsFound others window limit ends step due begun ls v
  found_by limit ends step due begun [] v h = h
  found_by limit ends step due begun (l ∷ ls) v (inl wrong) = inl (wrong_by limit step due begun l v wrong)
  found_by limit ends step due begun (l ∷ ls) v (inr (right, more)) = inr (
    record { due_is = right.due_is; bound = there l.block l.bound right.bound; above = right.above },
    found_by limit ends (step + 1) (due_after due l) (begun_with due begun l.block) ls v more,
  )

  verdict_by : (ceiling : ℕ) (c : Certificate) (v : Verdict) → IsVerdict costs window ceiling c v → IsVerdict others window ceiling c v
  verdict_by ceiling c v (inl other) = inl other
  verdict_by ceiling c v (inr (of, found)) = inr (of, found_by (limit_named ceiling c.head.second) _ 1 [] [] (lines_of c) v found)

  pub bad_by : (ceiling : ℕ) (bytes : List ℕ) (fault : CertificateFault) → IsBadCertificate costs window ceiling bytes fault → IsBadCertificate others window ceiling bytes fault
  bad_by ceiling bytes fault (inl large) = inl large
  bad_by ceiling bytes fault (inr (inl line)) = inr (inl line)
  bad_by ceiling bytes fault (inr (inr (few, c, verdict, text, is, e))) = inr (inr (few, c, verdict, text, verdict_by ceiling c verdict is, e))

  pub good_by : (ceiling : ℕ) (bytes : List ℕ) (first second : Option ℕ) → IsGoodCertificate costs window ceiling bytes first second
      → IsGoodCertificate others window ceiling bytes first second
  good_by ceiling bytes first second is =
      let shows = is.valid.shows in
      record {
        certificate = is.certificate;
        few = is.few;
        text = is.text;
        valid = record {
          spelled = is.valid.spelled;
          window_is = is.valid.window_is;
          ceiling_is = is.valid.ceiling_is;
          shows = record {
            blocks = shows.blocks;
            each = shows.each;
            walks = walks_by_others window costs others agree (limit_named ceiling is.certificate.head.second) shows.blocks (lines_of is.certificate) shows.walks;
            first_is = shows.first_is;
            second_is = shows.second_is;
          };
        };
        first_is = is.first_is;
        second_is = is.second_is;
      }
