use Rattle.std.proofs.Common.{◌+◌, arith, sym}
use Rattle.std.proofs.lemmas.List.{take_rest, take_all, drop_all}
use Rattle.mp_scaled.proofs.PointLemmas.{place_found, place_missing}
use Rattle.mp_scaled.specs.Decimal.{is_point}
use Rattle.std.specs.List.{position_or_len}
use Rattle.mp_scaled.proofs.decimal.split_at_point.Goals as goal

pub returns-in-Some : goal.returns-in-Some
returns-in-Some c =
    let found = place_found is_point c.args.text.now c.in-Some.point c.in-Some.ensures.index in
    record { whole = rw found; fraction = rw (found, take_rest) }

pub returns-in-None : goal.returns-in-None
returns-in-None c =
    let text = c.args.text.now in
    let missing = place_missing is_point text c.in-None.ensures.index in
    record {
      whole = sym (take_all (position_or_len is_point text) text missing);
      fraction = sym (drop_all (position_or_len is_point text + 1) text (omega arith));
    }
