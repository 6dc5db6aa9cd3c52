use Rattle.std.proofs.Common.{◌≡◌, ◌<◌, drop, IfSome}
use Rattle.std.specs.Option.{option_or}
use Rattle.mp_macro.specs.Bodies.{last_place}
use Rattle.mp_macro.proofs.body.last_place.Given as goal

abbrev pub invariant-names : goal.invariant-names
invariant-names l = record {
  place : option_or (last_place l.place l.symbol (drop l.place l.names)) l.found ≡ last_place 0 l.symbol l.names;
  within : IfSome l.found (λ place. place < l.place);
}
