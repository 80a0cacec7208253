-- The start edges of a log, one record after the other.
use Rattle.std.proofs.Common.{◌≡◌, ℕ, ◌+◌, ◌-◌, ◌*◌, ◌%◌, Bool, true, false, ◌&&◌, nat_lt, nat_le, if◌then◌else◌, List, [], ◌∷◌, map, filter, sum_by, Some, None, refl, sym, ap, ◌∙◌, zero-add}
use Rattle.std.specs.Option.{option_map_or}
use Rattle.std.proofs.lemmas.List.Sums.{sum_by-cons}
use Rattle.signal_base.specs.declared.station.Station.{Station}
use Rattle.signal_base.specs.declared.station.Station.TheVariants.{Dcf77, Msf, Wwvb, Jjy}
use Rattle.definitions.specs.declared.level.Level.{Level}
use Rattle.definitions.specs.declared.level.Level.TheVariants.{Unknown}
use Rattle.definitions.specs.heard.Logs.{Records}
use Rattle.definitions.specs.heard.Phase.{is_start_edge, start_edges}
use Rattle.align.specs.Edges.{start_offset, offsets_from}

-- the sum of g over the offsets of some records, given the level before them
abbrev pub sum_after : (ℕ → ℕ) → Station → ℕ → ℕ → Level → Records → ℕ
sum_after g station begin n before [] = 0
sum_after g station begin n before (r ∷ rs) =
    option_map_or g (start_offset station begin n before r) 0 + sum_after g station begin n r.1 rs

-- one more time t that is of a start edge or not, and in the window or not
one_more : (g at : ℕ → ℕ) (in_window : ℕ → Bool) (t : ℕ) (es : List ℕ) (is_edge is_inside : Bool) → in_window t ≡ is_inside
    → option_map_or g (if is_edge && is_inside then Some (at t) else None) 0 + sum_by g (map at (filter in_window es))
    ≡ sum_by g (map at (filter in_window (if is_edge then t ∷ es else es)))
one_more g at in_window t es false is_inside e = zero-add (sum_by g (map at (filter in_window es)))
one_more g at in_window t es true false e = rw e (zero-add (sum_by g (map at (filter in_window es))))
one_more g at in_window t es true true e = rw e (sym (sum_by-cons g (at t) (map at (filter in_window es))))

after_record : (g : ℕ → ℕ) (station : Station) (begin n : ℕ) (before : ℕ × Level) (rs : Records)
    → sum_after g station begin n before.1 rs ≡ sum_by g (offsets_from station begin n (before ∷ rs))
after_record g station begin n before [] = refl
after_record g station begin n before (r ∷ rs) =
    let at = λ (e : ℕ). (e - begin) % 1000 in
    let in_window = λ (e : ℕ). nat_le begin e && nat_lt e (begin + 1000 * n) in
    ap (λ s. option_map_or g (start_offset station begin n before.1 r) 0 + s) (after_record g station begin n r rs)
    ∙ one_more g at in_window r.0 (start_edges station (r ∷ rs)) (is_start_edge station before.1 r.1) (in_window r.0) refl

no_edge : (station : Station) (level : Level) → is_start_edge station Unknown level ≡ false
no_edge Dcf77 level = refl
no_edge Msf level = refl
no_edge Wwvb level = refl
no_edge Jjy level = refl

unheard : (g : ℕ → ℕ) (is_edge is_inside : Bool) (o s : ℕ) → is_edge ≡ false
    → option_map_or g (if is_edge && is_inside then Some o else None) 0 + s ≡ s
unheard g false is_inside o s e = zero-add s
unheard g true is_inside o s e = cc

-- with no level known before it, the first record is no edge
pub sum_of_log : (g : ℕ → ℕ) (station : Station) (begin n : ℕ) (log : Records)
    → sum_after g station begin n Unknown log ≡ sum_by g (offsets_from station begin n log)
sum_of_log g station begin n [] = refl
sum_of_log g station begin n (r ∷ rs) =
    unheard g (is_start_edge station Unknown r.1) (nat_le begin r.0 && nat_lt r.0 (begin + 1000 * n)) ((r.0 - begin) % 1000)
    (sum_after g station begin n r.1 rs) (no_edge station r.1)
    ∙ after_record g station begin n r rs
