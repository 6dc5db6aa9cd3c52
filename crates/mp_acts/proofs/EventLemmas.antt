-- Each change of the unknowns is an event, or none.
use Rattle.std.proofs.Common.{◌≡◌, ◌<◌, ◌≤◌, ℕ, ◌+◌, ◌-◌, Bool, true, false, cond, List, [], ◌∷◌, ◌++◌, Option, None, Ok, length, map, get_or, drop, refl, sym, ap, subst, ◌∙◌, add-one, zero-add, drop-cons, arith, length-append}
use Rattle.std.specs.List.{count_by, filter}
use Rattle.std.specs.Coded.{Coded-set, coded_ℕ}
use Rattle.std.proofs.lemmas.List.{drop_all, map-append, append-nil}
use Rattle.std.proofs.lemmas.List.Sums.{fold-append, sum_by-append}
use Rattle.std.proofs.Math.Logic.{∥∥₁_map, ∥∥₁_elim}
use Rattle.mp_solver.specs.declared.fresh.Fresh.TheVariants.{Made}
use Rattle.mp_solver.specs.declared.equated.Equated.TheVariants.{Accepted}
use Rattle.mp_solver.specs.States.{States, Unknowns, IsOver, with_fresh, fresh_of, unnamed}
use Rattle.mp_solver.specs.Reduction.{reduce_of}
use Rattle.mp_solver.specs.Elimination.{forms_in, eliminate}
use Rattle.mp_solver.specs.Replay as event
use Rattle.mp_solver.specs.Replay.{Event, after, after_residual, replay, is_fresh, is_equation, unknowns_made, equations_accepted, IsMadeBy, new, fresh, unname, equate}
use Rattle.mp_pool.specs.Terms.{AreTerms}
use Rattle.mp_forms.specs.Forms.{LinearForm}
use Rattle.mp_acts.specs.Events.{event_of, adds, IsMadeWith, AreMadeBy, AreEventsOf}
use Rattle.mp_acts.specs.Variables.{is_unknown, without_name, without_names}
use Rattle.mp_acts.specs.declared.event.Event.{Event as Kept}
use Rattle.mp_acts.specs.declared.event.Event.TheVariants as kept

-- the newest event stands last, in the code and in the view
pub map_push : (old pushed : List Kept) (e : Kept) → pushed ≡ old ++ e ∷ [] → map event_of pushed ≡ map event_of old ++ event_of e ∷ []
map_push old pushed e is = ap (map event_of) is ∙ map-append event_of old (e ∷ [])

replay_push : (events : List Event) (e : Event) → replay (events ++ e ∷ []) ≡ after (replay events) e
replay_push events e = fold-append after (record { states = []; names = [] }) events (e ∷ [])

states_push : (events : List Event) (e : Event) → (replay (events ++ e ∷ [])).states ≡ (after (replay events) e).states
states_push events e = ap (λ (u : Unknowns). u.states) (replay_push events e)

count_push : (events : List Event) (e : Event) → unknowns_made (events ++ e ∷ []) ≡ unknowns_made events + cond (is_fresh e) 1 0
count_push events e = omega (arith, sum_by-append (λ e. cond (is_fresh e) 1 0) events (e ∷ []))

adds_append : (first more : List Event) → filter adds (first ++ more) ≡ filter adds first ++ filter adds more
adds_append [] more = refl
adds_append (event.Fresh name ∷ first) more = ap (λ rest. event.Fresh name ∷ rest) (adds_append first more)
adds_append (event.Equation difference ∷ first) more = ap (λ rest. event.Equation difference ∷ rest) (adds_append first more)
adds_append (event.Unname serial ∷ first) more = adds_append first more

pub no_events : AreEventsOf [] (record { states = []; names = [] })
unfolding AreMadeBy
no_events = record { made = ∣ record { every = []; made = new; adding = refl } ∣₁; replayed = refl; counted = refl }

-- an unknown
module _ (before : Unknowns) (name : List ℕ) (serial : ℕ) (now : Unknowns) (exact : (Made serial, now) ≡ fresh_of before name) (states : now.states ≡ with_fresh before.states) where
  made_fresh : {events : List Event} → IsMadeWith events before → IsMadeWith (events ++ event.Fresh name ∷ []) now
  made_fresh is = record {
    every = is.every ++ event.Fresh name ∷ [];
    made = fresh is.made name (Made serial) now exact;
    adding = adds_append is.every (event.Fresh name ∷ []) ∙ ap (λ events. events ++ event.Fresh name ∷ []) is.adding;
  }

  pub events_fresh : {events : List Event} → AreEventsOf events before → AreEventsOf (events ++ event.Fresh name ∷ []) now
  unfolding AreMadeBy
  events_fresh {events = events} is = record {
    made = ∥∥₁_map is.made made_fresh;
    replayed = states ∙ ap with_fresh is.replayed ∙ sym (states_push events (event.Fresh name));
    counted = omega (arith, count_push events (event.Fresh name), is.counted, ap length states, length-append before.states (None ∷ []));
  }

-- an equation that was accepted
module _ (before : Unknowns) (difference residual : LinearForm) (now : Unknowns) (terms : AreTerms difference.terms) (over : IsOver before.states difference)
    (reduced : Ok residual ≡ reduce_of before.states difference) (exact : (Accepted, now.states) ≡ eliminate before.states residual) (names : now.names ≡ before.names)
    (as_many : length now.states ≡ length before.states) where
  made_equation : {events : List Event} → IsMadeWith events before → IsMadeWith (events ++ event.Equation difference ∷ []) now
  made_equation is =
      let Made_of : List (Option (List ℕ)) → Type 0 = λ names. IsMadeBy (is.every ++ event.Equation difference ∷ []) (record { states = now.states; names = names }) in
      record {
        every = is.every ++ event.Equation difference ∷ [];
        made = subst Made_of (sym names) (equate is.made difference residual Accepted now.states terms over reduced exact);
        adding = adds_append is.every (event.Equation difference ∷ []) ∙ ap (λ events. events ++ event.Equation difference ∷ []) is.adding;
      }

  pub events_equation : {events : List Event} → AreEventsOf events before → AreEventsOf (events ++ event.Equation difference ∷ []) now
  unfolding AreMadeBy
  events_equation {events = events} is = record {
    made = ∥∥₁_map is.made made_equation;
    replayed =
        ap (λ pair. pair.1) exact ∙ ap (after_residual before.states) reduced
        ∙ ap (λ (states : States). after_residual states (reduce_of states difference)) is.replayed ∙ sym (states_push events (event.Equation difference));
    counted = omega (arith, count_push events (event.Equation difference), is.counted, as_many);
  }

-- a name that is taken away stands between the events
made_unnamed : {events : List Event} (serial : ℕ) (unknowns : Unknowns) → IsMadeWith events unknowns → IsMadeWith events (unnamed unknowns serial)
made_unnamed serial unknowns is = record {
  every = is.every ++ event.Unname serial ∷ [];
  made = unname is.made serial;
  adding = adds_append is.every (event.Unname serial ∷ []) ∙ append-nil (filter adds is.every) ∙ is.adding;
}

made_without : {events : List Event} (serial : ℕ) (unknowns : Unknowns) → IsMadeWith events unknowns → IsMadeWith events (without_name unknowns serial)
made_without {events = events} serial unknowns made =
    elim (is_unknown unknowns serial) as (λ b. IsMadeWith events (cond b (unnamed unknowns serial) unknowns)) [
      | true ↦ made_unnamed serial unknowns made
      | false ↦ made
    ]

made_without_names : {events : List Event} (serials : List ℕ) (unknowns : Unknowns) → IsMadeWith events unknowns → IsMadeWith events (without_names unknowns serials)
unfolding without_names
made_without_names [] unknowns made = made
made_without_names (serial ∷ more) unknowns made = made_without_names more (without_name unknowns serial) (made_without serial unknowns made)

-- the states stay
states_without : (serial : ℕ) (unknowns : Unknowns) → (without_name unknowns serial).states ≡ unknowns.states
states_without serial unknowns =
    elim (is_unknown unknowns serial) as (λ b. (cond b (unnamed unknowns serial) unknowns).states ≡ unknowns.states) [
      | true ↦ refl
      | false ↦ refl
    ]

pub states_without_names : (serials : List ℕ) (unknowns : Unknowns) → (without_names unknowns serials).states ≡ unknowns.states
unfolding without_names
states_without_names [] unknowns = refl
states_without_names (serial ∷ more) unknowns = states_without_names more (without_name unknowns serial) ∙ states_without serial unknowns

pub events_without_names : {events : List Event} (serials : List ℕ) (unknowns : Unknowns) → AreEventsOf events unknowns → AreEventsOf events (without_names unknowns serials)
unfolding AreMadeBy
events_without_names serials unknowns is = record {
  made = ∥∥₁_map is.made (made_without_names serials unknowns);
  replayed = states_without_names serials unknowns ∙ is.replayed;
  counted = is.counted ∙ sym (ap length (states_without_names serials unknowns));
}

-- the names of what is left of a list taken, when the next was
module _ (xs : List ℕ) where
  pub without_step : (old after : Unknowns) (i d : ℕ) → i < length xs → after ≡ without_name old (get_or xs i d)
      → without_names after (drop (i + 1) xs) ≡ without_names old (drop i xs)
  unfolding without_names
  without_step old after i d within taken =
      let next : drop i xs ≡ get_or xs i d ∷ drop (i + 1) xs = rw add-one (drop-cons xs i d within) in
      ap (λ unknowns. without_names unknowns (drop (i + 1) xs)) taken ∙ sym (ap (without_names old) next)

  pub without_end : (unknowns : Unknowns) (i : ℕ) → length xs ≤ i → without_names unknowns (drop i xs) ≡ unknowns
  unfolding without_names
  without_end unknowns i past = ap (without_names unknowns) (drop_all i xs past)

count_first : (test : Event → Bool) (e : Event) (events : List Event) → count_by test (e ∷ events) ≡ cond (test e) 1 0 + count_by test events
count_first test e events = sum_by-append (λ e. cond (test e) 1 0) (e ∷ []) events ∙ ap (λ n. n + count_by test events) (zero-add (cond (test e) 1 0))

-- an event that the code keeps is an unknown or an equation
pub both_counts : (events : List Kept) → length events ≡ unknowns_made (map event_of events) + equations_accepted (map event_of events)
both_counts [] = refl
both_counts (kept.Fresh name ∷ events) =
    let e = event.Fresh name.value in
    omega (arith, both_counts events, count_first is_fresh e (map event_of events), count_first is_equation e (map event_of events))
both_counts (kept.Equation difference ∷ events) =
    let e = event.Equation difference.value in
    omega (arith, both_counts events, count_first is_fresh e (map event_of events), count_first is_equation e (map event_of events))

-- names that are taken away are no equations
equations_added : (every : List Event) → equations_accepted (filter adds every) ≡ equations_accepted every
equations_added [] = refl
equations_added (event.Fresh name ∷ events) =
    let e = event.Fresh name in
    omega (arith, equations_added events, count_first is_equation e events, count_first is_equation e (filter adds events))
equations_added (event.Equation difference ∷ events) =
    let e = event.Equation difference in
    omega (arith, equations_added events, count_first is_equation e events, count_first is_equation e (filter adds events))
equations_added (event.Unname serial ∷ events) =
    omega (arith, equations_added events, count_first is_equation (event.Unname serial) events)

-- as many unknowns are dependent as equations were accepted
pub equations_counted : ((events : List Event) (system : Unknowns) → IsMadeBy events system → length (forms_in system.states) ≡ equations_accepted events)
    → (events : List Event) (unknowns : Unknowns) → AreEventsOf events unknowns → length (forms_in unknowns.states) ≡ equations_accepted events
unfolding AreMadeBy
equations_counted counted events unknowns is =
    ∥∥₁_elim is.made (Coded-set coded_ℕ _ _) (λ made. counted made.every unknowns made.made ∙ sym (equations_added made.every) ∙ ap (λ events. equations_accepted events) made.adding)

-- the equations are the events but the unknowns
pub equations_left : (events : List Kept) (unknowns : Unknowns) (all count : ℕ) → all ≡ length events → count ≡ length unknowns.states → AreEventsOf (map event_of events) unknowns
    → all - count ≡ equations_accepted (map event_of events)
equations_left events unknowns all count all_is count_is is =
    omega (arith, all_is, count_is, is.counted, both_counts events)
