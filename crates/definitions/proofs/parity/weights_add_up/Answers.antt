-- Weights add up, in each table for each number that it tells.
use Rattle.std.proofs.Common.{ℕ, ◌<◌, ◌==◌, refl, arith}
use Rattle.definitions.specs.codes.Dcf77 as dcf
use Rattle.definitions.specs.codes.Msf as msf
use Rattle.definitions.specs.codes.Wwvb as wwvb
use Rattle.definitions.specs.codes.Jjy as jjy
use Rattle.definitions.proofs.CheckLaws.{all_below}
use Rattle.definitions.proofs.SetLaws.{either}
use Rattle.definitions.proofs.WeightLaws.{adds_up}
use Rattle.definitions.proofs.parity.weights_add_up.Goals as goal

small : (weekday : ℕ) → weekday < 7 → dcf.weekday_from_monday weekday < 8
small weekday lt = either (λ n. n < 8) (weekday == 0) 7 weekday (omega arith) (omega (arith, lt))

pub returns-clause-dcf77 : goal.returns-clause-dcf77
unfolding all_below
returns-clause-dcf77 c = λ f minute hour day weekday month year.
    let m = adds_up dcf.minute_weights 60 refl f.minute minute in
    let h = adds_up dcf.hour_weights 24 refl f.hour hour in
    let d = adds_up dcf.day_weights 32 refl f.day day in
    let w = adds_up dcf.weekday_weights 8 refl (dcf.weekday_from_monday f.weekday) (small f.weekday weekday) in
    let n = adds_up dcf.month_weights 13 refl f.month month in
    let y = adds_up dcf.year_weights 100 refl f.year year in
    cc

pub returns-clause-msf : goal.returns-clause-msf
unfolding all_below
returns-clause-msf c = λ f minute hour day weekday month year.
    let m = adds_up msf.minute_weights 60 refl f.minute minute in
    let h = adds_up msf.hour_weights 24 refl f.hour hour in
    let d = adds_up msf.day_weights 32 refl f.day day in
    let w = adds_up msf.weekday_weights 7 refl f.weekday weekday in
    let n = adds_up msf.month_weights 13 refl f.month month in
    let y = adds_up msf.year_weights 100 refl f.year year in
    cc

pub returns-clause-wwvb : goal.returns-clause-wwvb
unfolding all_below
returns-clause-wwvb c = λ f minute hour day year.
    let m = adds_up wwvb.minute_weights 60 refl f.minute minute in
    let h = adds_up wwvb.hour_weights 24 refl f.hour hour in
    let d = adds_up wwvb.day_weights 367 refl f.day_of_year day in
    let y = adds_up wwvb.year_weights 100 refl f.year year in
    cc

pub returns-clause-jjy : goal.returns-clause-jjy
unfolding all_below
returns-clause-jjy c = λ f minute hour day year weekday.
    let m = adds_up jjy.minute_weights 60 refl f.minute minute in
    let h = adds_up jjy.hour_weights 24 refl f.hour hour in
    let d = adds_up jjy.day_weights 367 refl f.day_of_year day in
    let y = adds_up jjy.year_weights 100 refl f.year year in
    let w = adds_up jjy.weekday_weights 7 refl f.weekday weekday in
    cc
