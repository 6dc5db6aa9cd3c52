use Rattle.std.proofs.Common.{sym, subst}
use Rattle.mp_input.specs.Search.{HasFirstLine}
use Rattle.mp_input.specs.Entries.{IsPlain}
use Rattle.mp_input.proofs.SearchLemmas.{ends_here}
use Rattle.mp_input.proofs.StackLemmas.{all_plain_at}
use Rattle.mp_input.proofs.input.Input.end_file_after_line.Goals as goal

pub returns-in-Some-clause-text : goal.returns-in-Some-clause-text
returns-in-Some-clause-text c =
    let es = c.self.inside.entries.items in
    let h : HasFirstLine es c.in-Some.at c.in-Some.field-0-1 = subst (λ xs. HasFirstLine xs c.in-Some.at c.in-Some.field-0-1) c.as_slice.ensures.value c.in-Some.ensures in
    let plain : IsPlain c.index_mut.result.now = subst IsPlain (sym c.index_mut.ensures.value) (all_plain_at es c.in-Some.at c.index_mut.result.now h.within c.self.invariant) in
    rw (← c.self.view_is)
    (ends_here es c.in-Some.at c.in-Some.field-0-1 c.index_mut.result.now c.end_after_line.new.self h c.index_mut.ensures.value (c.end_after_line.ensures.ends plain))
