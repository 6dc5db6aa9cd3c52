use Rattle.std.proofs.Common.{rules, ◌≡◌, sym, subst, arith, ◌-◌, ap, ◌∙◌, Ok}
use Rattle.mp_input.specs.Lines.{last_after}
use Rattle.mp_input.specs.Taken.{last_taken}
use Rattle.mp_input.proofs.StackLemmas.{all_plain_at}
use Rattle.std.proofs.lemmas.Bool.Decides.{nat_tests}
use Rattle.mp_input.specs.Entries.{IsPlain}
use Rattle.mp_input.proofs.StackLemmas.{all_plain_set_top}
use Rattle.mp_input.proofs.input.take_top.Goals as goal

pub returns-in-Some-clause-plain : goal.returns-in-Some-clause-plain
returns-in-Some-clause-plain c = λ p.
    all_plain_set_top c.entries.entries.items (c.len-top.result - 1) c.index_mut.result.now c.take.new.self (grind (arith, nat_tests))
    (λ q. c.take.ensures.plain (subst IsPlain (sym c.index_mut.ensures.value) q)) (c.entries.invariant.plain p)

pub returns-in_err-taken-clause-last : goal.returns-in_err-taken-clause-last
returns-in_err-taken-clause-last c = λ p.
    let q : IsPlain c.index_mut.result.now = subst IsPlain (sym c.index_mut.ensures.value) (all_plain_at c.entries.entries.items (c.len-top.result - 1) c.index_mut.result.now (grind (arith, nat_tests)) (c.entries.invariant.plain p)) in
    let same : c.take.new.last ≡ c.args.last.now = c.in_err-taken.ensures.last q ∙ c.entries.invariant.last p in
    search rules

pub returns-in-Some-clause-last : goal.returns-in-Some-clause-last
returns-in-Some-clause-last c = λ p.
    let q : IsPlain c.index_mut.result.now = subst IsPlain (sym c.index_mut.ensures.value) (all_plain_at c.entries.entries.items (c.len-top.result - 1) c.index_mut.result.now (grind (arith, nat_tests)) (c.entries.invariant.plain p)) in
    c.in_ok-taken.ensures.last q ∙ ap (λ o. last_taken (Ok o) c.entries.last) c.in-Some.is ∙ ap (last_after c.in-Some.taken) (c.entries.invariant.last p)
