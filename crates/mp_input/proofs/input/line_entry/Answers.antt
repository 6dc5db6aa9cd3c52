use Rattle.std.proofs.Common.{◌≡◌, ◌<◌, sym, subst, arith, length, get_or, ◌-◌, ◌+◌, Some, drop, None}
use Rattle.std.proofs.lemmas.List.{get_or_default}
use Rattle.mp_input.specs.Entries.{entry_items, IsPlain, left_of}
use Rattle.mp_input.specs.Lines.{first_line}
use Rattle.mp_input.specs.declared.entry.Entry.{Entry}
use Rattle.mp_input.proofs.SearchLemmas.{line_here}
use Rattle.mp_input.proofs.StackLemmas.{all_plain_at}
use Rattle.mp_input.proofs.input.line_entry.Goals as goal

pub returns-in-Some : goal.returns-in-Some
returns-in-Some c =
    let i = c.down.top - 1 in
    let e = c.index-entries-top.result in
    let up : i + 1 ≡ c.down.top = omega arith in
    let m : i < length c.args.entries.now = omega arith in
    let plain : IsPlain e = subst IsPlain (sym c.index-entries-top.is) (all_plain_at c.args.entries.now i e m c.requires) in
    let is : first_line (entry_items e) ≡ Some c.in-Some.place = cc (c.in-Some.ensures plain) in
    let here : first_line (entry_items (get_or c.args.entries.now i e)) ≡ Some c.in-Some.place =
    subst (λ x. first_line (entry_items x) ≡ Some c.in-Some.place) c.index-entries-top.is is in
    record {
      within = m;
      above = subst (λ n. first_line (left_of (drop n c.args.entries.now)) ≡ None) (sym up) c.down.invariant.above;
      here = line_here c.args.entries.now c.down.top i e c.in-Some.place up (omega arith) c.down.invariant.above here;
      has = λ (d : Entry). subst (λ x. first_line (entry_items x) ≡ Some c.in-Some.place) (get_or_default c.args.entries.now i e d m) here;
    }
