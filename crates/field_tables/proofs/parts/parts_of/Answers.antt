use Rattle.std.proofs.Common.{List, ◌++◌, ap, ◌∙◌}
use Rattle.signal_base.specs.declared.station.Station.TheVariants.{Dcf77, Msf, Wwvb, Jjy}
use Rattle.leap_unions.specs.Scope.{Scope}
use Rattle.field_tables.specs.Scopes.{scope_if}
use Rattle.field_tables.proofs.ScopeLaws.{one_by_one}
use Rattle.field_tables.proofs.parts.parts_of.Goals as goal

pub returns : goal.returns
returns c =
    let stations = c.args.window.now.stations in
    let seconds = c.args.window.now.seconds in
    c.in_ok-add_if_heard-4.ensures
    ∙ ap (λ (xs : List Scope). xs ++ scope_if stations seconds Jjy)
    (c.in_ok-add_if_heard-3.ensures
    ∙ ap (λ (xs : List Scope). xs ++ scope_if stations seconds Wwvb)
    (c.in_ok-add_if_heard-2.ensures
    ∙ ap (λ (xs : List Scope). xs ++ scope_if stations seconds Msf)
    (c.in_ok-add_if_heard.ensures ∙ ap (λ (xs : List Scope). xs ++ scope_if stations seconds Dcf77) c.in_ok-parts.ensures.items)))
    ∙ one_by_one stations seconds
