-- What was passed over stands apart.
use Rattle.std.proofs.Common.{◌≡◌, map}
use Rattle.bank.proofs.order.parted.Given as goal

abbrev pub invariant-loop-receiver : goal.invariant-loop-receiver
invariant-loop-receiver l = record {
  receivers : l.receivers.items ≡ map (λ e. e.0) l.yielded;
  logs : l.logs.items ≡ map (λ e. e.1) l.yielded;
}
