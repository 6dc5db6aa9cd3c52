use Rattle.std.proofs.Common.{◌≡◌, ◌+◌, ◌-◌, ◌*◌, ◌<◌, ◌++◌, take, drop}
use Rattle.mp_scaled.specs.Print.{digits_within}
use Rattle.mp_scaled.proofs.print.put_digits.Given as goal

abbrev pub invariant-digits : goal.invariant-digits
invariant-digits l = record {
  text : take l.place l.to ++ digits_within (l.at + 5 - l.place) l.s l.delta ≡ take l.at l.initial.to ++ digits_within 5 (10 * l.units + 5) 10;
  rest : drop l.place l.to ≡ drop l.place l.initial.to;
  left : l.delta < l.s;
  small : l.s < 655360;
}
