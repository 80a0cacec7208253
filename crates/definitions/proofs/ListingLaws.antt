-- The characters of a minute by its facts, so that the facts are computed once; and that none is a blank.
use Rattle.std.proofs.Common.{◌≡◌, ◌≢◌, ℕ, inl, inr, Bool, true, not, ◌==◌, refl, subst, sym}
use Rattle.std.proofs.lemmas.Bool.{eq-eqb}
use Rattle.signal_base.specs.declared.station.Station.{Station}
use Rattle.signal_base.specs.Waveform.{symbol_count}
use Rattle.signal_base.specs.declared.station.Station.TheVariants.{Dcf77, Msf, Wwvb, Jjy}
use Rattle.definitions.specs.codes.Allowed.{IsSetOf, dcf_facts, msf_facts, wwvb_facts, jjy_facts}
use Rattle.definitions.specs.codes.Dcf77.{dcf_second}
use Rattle.definitions.specs.codes.Msf.{msf_second}
use Rattle.definitions.specs.codes.Wwvb.{wwvb_second}
use Rattle.definitions.specs.codes.Jjy.{jjy_second}
use Rattle.definitions.specs.codes.Listing.{blank, characters, characters_of, listed}
use Rattle.definitions.specs.codes.Vocabulary.{only}
use Rattle.definitions.proofs.CheckLaws.{all_below, below}

pub dcf_characters : (announced : Bool) (t : ℕ) → characters Dcf77 announced t ≡ characters_of Dcf77 announced t (dcf_second (dcf_facts announced t))
dcf_characters announced t = refl

pub msf_characters : (announced : Bool) (t : ℕ) → characters Msf announced t ≡ characters_of Msf announced t (msf_second (msf_facts announced t))
msf_characters announced t = refl

pub wwvb_characters : (announced : Bool) (t : ℕ) → characters Wwvb announced t ≡ characters_of Wwvb announced t (wwvb_second (wwvb_facts announced t))
wwvb_characters announced t = refl

pub jjy_characters : (announced : Bool) (t : ℕ) → characters Jjy announced t ≡ characters_of Jjy announced t (jjy_second (jjy_facts announced t))
jjy_characters announced t = refl

-- a set is listed by something else than a blank
abbrev shows : Station → ℕ → Bool
shows station set = not (listed station set == blank)

each_symbol : (station : Station) → all_below (λ x. shows station (only x)) (symbol_count station) ≡ true
unfolding all_below
each_symbol Dcf77 = refl
each_symbol Msf = refl
each_symbol Wwvb = refl
each_symbol Jjy = refl

shown : (station : Station) (set : ℕ) → IsSetOf station set → shows station set ≡ true
shown station set (inl e) = subst (λ m. shows station m ≡ true) (sym e) refl
shown station set (inr (inl e)) = subst (λ m. shows station m ≡ true) (sym e) refl
shown station set (inr (inr one)) =
    subst (λ m. shows station m ≡ true) (sym one.2) (below (λ x. shows station (only x)) (symbol_count station) (each_symbol station) one.0 one.1)

pub never_blank : (station : Station) (set : ℕ) → IsSetOf station set → listed station set ≢ blank
never_blank station set is e = let seen = shown station set is in let hidden = eq-eqb (listed station set) blank e in cc
