-- What is left of a text, and what is given of it, speaks of no more than was there: expansion invents nothing.
use Rattle.std.proofs.Common.{◌≡◌, ◌<◌, ℕ, List, [], ◌∷◌, Option, Some, None, Result, Ok, Err, inl, subst, refl, ap, arith}
use Rattle.std.specs.Prelude.{⊤, All, IfOk, OnErr}
use Rattle.std.proofs.lemmas.List.Elements.{All-nil, All-cons, All-head, All-tail}
use Rattle.mp_values.specs.Outcome.{OutcomeBy, Cause, Yields, change}
use Rattle.mp_values.specs.declared.item.Item.{Item}
use Rattle.mp_values.specs.declared.macros.Macro.{Macro}
use Rattle.mp_values.specs.declared.meaning.Delimiters.{Delimiters}
use Rattle.mp_values.specs.declared.meaning.Meaning.{Meaning}
use Rattle.mp_values.specs.declared.meaning.Meaning.TheVariants as meaning
use Rattle.mp_values.specs.declared.stop.Stop.{Stop}
use Rattle.mp_values.specs.declared.stop.Stop.TheVariants as stop
use Rattle.mp_values.specs.declared.turn.LeftOver.{LeftOver}
use Rattle.mp_values.specs.declared.turn.LeftOver.TheVariants as left_over
use Rattle.mp_values.specs.declared.turn.Pending.{Pending}
use Rattle.mp_values.specs.declared.turn.Pending.TheVariants as pending
use Rattle.mp_acts.specs.Counts.{Counts, most, greatest, IsWithin}
use Rattle.mp_acts.specs.Reach.{reach, reach_of_item, reach_of_macro, reach_of_meaning, reach_of_pair, one_symbol, one_internal}
use Rattle.mp_expand.specs.Expansion.{Expansion, IsWhole, LosesFirst, IsLeft}
use Rattle.mp_expand.specs.Steps.{take_first, put_back}
use Rattle.mp_expand.specs.Calls.{call}
use Rattle.mp_expand.specs.Advance.{advance, answered, items_of}
use Rattle.mp_expand.specs.Fronts.{Table}
use Rattle.mp_expand.specs.Holds.{Holds, HoldsLeftOver, HoldsPending, HoldsFirst, HoldsPair, HoldsBehind, HoldsUntil, HoldsNeed, HoldsCall, HoldsRequest, HoldsMeaning, HoldsTable, HoldsFront, HoldsStep, HoldsAfter}
use Rattle.mp_expand.specs.declared.front.Front.{Front}
use Rattle.mp_expand.specs.declared.front.Front.TheVariants as front
use Rattle.mp_expand.specs.declared.request.Behind.{Behind}
use Rattle.mp_expand.specs.declared.request.Behind.TheVariants as behind
use Rattle.mp_expand.specs.declared.request.Call.{Call}
use Rattle.mp_expand.specs.declared.request.Need.{Need}
use Rattle.mp_expand.specs.declared.request.Need.TheVariants as need
use Rattle.mp_expand.specs.declared.request.Request.{Request}
use Rattle.mp_expand.specs.declared.request.Request.TheVariants as request
use Rattle.mp_expand.specs.declared.request.Until.{Until}
use Rattle.mp_expand.specs.declared.request.Until.TheVariants as until
use Rattle.mp_expand.specs.declared.step.Answer.{Answer}
use Rattle.mp_expand.specs.declared.step.Step.{Step}
use Rattle.mp_expand.specs.declared.step.Step.TheVariants as step
use Rattle.mp_expand.proofs.HoldsLemmas.{invents_nothing}
use Rattle.mp_rules.specs.Reach.{reach_of_left_over, reach_of_pending, reach_of_text, reach_of_first, reach_of_behind, reach_of_until, reach_of_need, reach_of_call, reach_of_request, reach_of_expansion, reach_of_front, reach_of_step}
use Rattle.mp_rules.proofs.ReachLemmas.{first_within, none_in, both_within}

first_of : (a b n : Counts) → IsWithin (most a b) n → IsWithin a n
first_of a b n h = record {
  unknowns = omega (arith, h.unknowns);
  slots = omega (arith, h.slots);
  symbols = omega (arith, h.symbols);
  internals = omega (arith, h.internals);
}

second_of : (a b n : Counts) → IsWithin (most a b) n → IsWithin b n
second_of a b n h = record {
  unknowns = omega (arith, h.unknowns);
  slots = omega (arith, h.slots);
  symbols = omega (arith, h.symbols);
  internals = omega (arith, h.internals);
}

pub all_of : {A : Type 0} (f : A → Counts) (n : Counts) (xs : List A) → IsWithin (greatest f xs) n → All (λ x. IsWithin (f x) n) xs
all_of f n [] h = All-nil (λ x. IsWithin (f x) n)
all_of f n (x ∷ xs) h =
    let both = first_within f n x xs h in
    All-cons (λ x. IsWithin (f x) n) x xs both.0 (all_of f n xs both.1)

pub of_all : {A : Type 0} (f : A → Counts) (n : Counts) (xs : List A) → All (λ x. IsWithin (f x) n) xs → IsWithin (greatest f xs) n
unfolding greatest
of_all f n [] h = none_in n
of_all f n (x ∷ xs) h = both_within (f x) (greatest f xs) n (All-head (λ x. IsWithin (f x) n) x xs h) (of_all f n xs (All-tail (λ x. IsWithin (f x) n) x xs h))

module _ (n : Counts) where
  -- an item speaks of what there is, and so does the number of an internal
  abbrev pub There : Item → Type 0
  There x = IsWithin (reach_of_item x) n

  abbrev pub IsInternal : ℕ → Type 0
  IsInternal k = k < n.internals

  pub items_there : (xs : List Item) → IsWithin (greatest reach_of_item xs) n → All There xs
  items_there xs h = all_of reach_of_item n xs h

  items_within : (xs : List Item) → All There xs → IsWithin (greatest reach_of_item xs) n
  items_within xs h = of_all reach_of_item n xs h

  pub lists_there : (xss : List (List Item)) → IsWithin (greatest (greatest reach_of_item) xss) n → All (All There) xss
  lists_there [] h = All-nil (All There)
  lists_there (xs ∷ xss) h =
      let both = first_within (greatest reach_of_item) n xs xss h in
      All-cons (All There) xs xss (items_there xs both.0) (lists_there xss both.1)

  lists_within : (xss : List (List Item)) → All (All There) xss → IsWithin (greatest (greatest reach_of_item) xss) n
  unfolding greatest
  lists_within [] h = none_in n
  lists_within (xs ∷ xss) h =
      both_within (greatest reach_of_item xs) (greatest (greatest reach_of_item) xss) n (items_within xs (All-head (All There) xs xss h)) (lists_within xss (All-tail (All There) xs xss h))

  -- THE TEXT

  over_there : (x : LeftOver) → IsWithin (reach_of_left_over x) n → HoldsLeftOver There IsInternal x
  over_there left_over.Forever h = tt
  over_there (left_over.Values values) h = all_of reach n values h
  over_there (left_over.Suffixes suffixes) h = lists_there suffixes h
  over_there (left_over.Steps next by until) h = tt

  over_within : (x : LeftOver) → HoldsLeftOver There IsInternal x → IsWithin (reach_of_left_over x) n
  over_within left_over.Forever h = none_in n
  over_within (left_over.Values values) h = of_all reach n values h
  over_within (left_over.Suffixes suffixes) h = lists_within suffixes h
  over_within (left_over.Steps next by until) h = none_in n

  pending_there : (x : Pending) → IsWithin (reach_of_pending x) n → HoldsPending There IsInternal x
  pending_there (pending.Item x) h = h
  pending_there (pending.Turn turn) h = (
    items_there turn.body (second_of (reach_of_left_over turn.left_over) (greatest reach_of_item turn.body) n h),
    over_there turn.left_over (first_of (reach_of_left_over turn.left_over) (greatest reach_of_item turn.body) n h),
  )

  pending_within : (x : Pending) → HoldsPending There IsInternal x → IsWithin (reach_of_pending x) n
  pending_within (pending.Item x) h = h
  pending_within (pending.Turn turn) h =
      both_within (reach_of_left_over turn.left_over) (greatest reach_of_item turn.body) n (over_within turn.left_over h.1) (items_within turn.body h.0)

  text_there : (text : List Pending) → IsWithin (reach_of_text text) n → All (HoldsPending There IsInternal) text
  text_there [] h = All-nil (HoldsPending There IsInternal)
  text_there (x ∷ text) h =
      let both = first_within reach_of_pending n x text h in
      All-cons (HoldsPending There IsInternal) x text (pending_there x both.0) (text_there text both.1)

  text_within : (text : List Pending) → All (HoldsPending There IsInternal) text → IsWithin (reach_of_text text) n
  unfolding greatest
  text_within [] h = none_in n
  text_within (x ∷ text) h =
      both_within (reach_of_pending x) (reach_of_text text) n (pending_within x (All-head (HoldsPending There IsInternal) x text h))
      (text_within text (All-tail (HoldsPending There IsInternal) x text h))

  -- THE CALLS

  pair_there : (pair : Delimiters) → IsWithin (reach_of_pair pair) n → HoldsPair There IsInternal pair
  pair_there pair h = (first_of (one_symbol pair.left) (one_symbol pair.right) n h, second_of (one_symbol pair.left) (one_symbol pair.right) n h)

  pair_within : (pair : Delimiters) → HoldsPair There IsInternal pair → IsWithin (reach_of_pair pair) n
  pair_within pair h = both_within (one_symbol pair.left) (one_symbol pair.right) n h.0 h.1

  behind_there : (b : Behind) → IsWithin (reach_of_behind b) n → HoldsBehind There IsInternal b
  behind_there (behind.Delimiter pair) h = pair_there pair h
  behind_there behind.Of h = tt
  behind_there behind.Anything h = tt

  behind_within : (b : Behind) → HoldsBehind There IsInternal b → IsWithin (reach_of_behind b) n
  behind_within (behind.Delimiter pair) h = pair_within pair h
  behind_within behind.Of h = none_in n
  behind_within behind.Anything h = none_in n

  until_there : (u : Until) → IsWithin (reach_of_until u) n → HoldsUntil There IsInternal u
  until_there (until.Delimiter pair) h = pair_there pair h
  until_there until.Statement h = tt

  until_within : (u : Until) → HoldsUntil There IsInternal u → IsWithin (reach_of_until u) n
  until_within (until.Delimiter pair) h = pair_within pair h
  until_within until.Statement h = none_in n

  need_there : (x : Need) → IsWithin (reach_of_need x) n → HoldsNeed There IsInternal x
  need_there (need.Opening k) h = tt
  need_there (need.Answer b) h = behind_there b h
  need_there (need.Text u depth) h = until_there u h

  need_within : (x : Need) → HoldsNeed There IsInternal x → IsWithin (reach_of_need x) n
  need_within (need.Opening k) h = none_in n
  need_within (need.Answer b) h = behind_within b h
  need_within (need.Text u depth) h = until_within u h

  call_there : (c : Call) → IsWithin (reach_of_call c) n → HoldsCall There IsInternal c
  call_there c h =
      let called = most (reach_of_macro c.called) (greatest (greatest reach_of_item) c.got) in
      let front_part = first_of called (greatest reach_of_item c.text) n h in
      record {
        body = items_there c.called.body (first_of (reach_of_macro c.called) (greatest (greatest reach_of_item) c.got) n front_part);
        got = lists_there c.got (second_of (reach_of_macro c.called) (greatest (greatest reach_of_item) c.got) n front_part);
        text = items_there c.text (second_of called (greatest reach_of_item c.text) n h);
      }

  call_within : (c : Call) → HoldsCall There IsInternal c → IsWithin (reach_of_call c) n
  call_within c h =
      both_within (most (reach_of_macro c.called) (greatest (greatest reach_of_item) c.got)) (greatest reach_of_item c.text) n
      (both_within (reach_of_macro c.called) (greatest (greatest reach_of_item) c.got) n (items_within c.called.body h.body) (lists_within c.got h.got))
      (items_within c.text h.text)

  request_there : (r : Request) → IsWithin (reach_of_request r) n → HoldsRequest There IsInternal r
  request_there (request.Call c x) h = (
    call_there c (first_of (reach_of_call c) (reach_of_need x) n h),
    need_there x (second_of (reach_of_call c) (reach_of_need x) n h),
  )
  request_there (request.Truth w) h = tt
  request_there request.Colon h = tt
  request_there (request.Skip k depth) h = tt

  request_within : (r : Request) → HoldsRequest There IsInternal r → IsWithin (reach_of_request r) n
  request_within (request.Call c x) h = both_within (reach_of_call c) (reach_of_need x) n (call_within c h.0) (need_within x h.1)
  request_within (request.Truth w) h = none_in n
  request_within request.Colon h = none_in n
  request_within (request.Skip k depth) h = none_in n

  requests_there : (rs : List Request) → IsWithin (greatest reach_of_request rs) n → All (HoldsRequest There IsInternal) rs
  requests_there [] h = All-nil (HoldsRequest There IsInternal)
  requests_there (r ∷ rs) h =
      let both = first_within reach_of_request n r rs h in
      All-cons (HoldsRequest There IsInternal) r rs (request_there r both.0) (requests_there rs both.1)

  requests_within : (rs : List Request) → All (HoldsRequest There IsInternal) rs → IsWithin (greatest reach_of_request rs) n
  unfolding greatest
  requests_within [] h = none_in n
  requests_within (r ∷ rs) h =
      both_within (reach_of_request r) (greatest reach_of_request rs) n (request_within r (All-head (HoldsRequest There IsInternal) r rs h))
      (requests_within rs (All-tail (HoldsRequest There IsInternal) r rs h))

  there : (e : Expansion) → IsWithin (reach_of_expansion e) n → Holds There IsInternal e
  there e h = record {
    text = text_there e.text (first_of (reach_of_text e.text) (greatest reach_of_request e.requests) n h);
    requests = requests_there e.requests (second_of (reach_of_text e.text) (greatest reach_of_request e.requests) n h);
  }

  within : (e : Expansion) → Holds There IsInternal e → IsWithin (reach_of_expansion e) n
  within e h = both_within (reach_of_text e.text) (greatest reach_of_request e.requests) n (text_within e.text h.text) (requests_within e.requests h.requests)

  -- THE NAMES

  meaning_there : (m : Meaning) → IsWithin (reach_of_meaning m) n → HoldsMeaning There IsInternal m
  meaning_there (meaning.Word w) h = tt
  meaning_there (meaning.Unbuilt name) h = tt
  meaning_there meaning.NewTag h = tt
  meaning_there (meaning.Tag root) h = tt
  meaning_there (meaning.Internal k) h = omega (arith, h.internals)
  meaning_there (meaning.Left pair) h = pair_there pair h
  meaning_there (meaning.Right pair) h = pair_there pair h
  meaning_there (meaning.Macro m) h = items_there m.body h

  table_there : (table : Table) → All (λ entry. IsWithin (reach_of_meaning entry.1) n) table → HoldsTable There IsInternal table
  table_there [] h = All-nil (λ entry. HoldsMeaning There IsInternal entry.1)
  table_there (entry ∷ more) h =
      All-cons (λ entry. HoldsMeaning There IsInternal entry.1) entry more (meaning_there entry.1 (All-head (λ entry. IsWithin (reach_of_meaning entry.1) n) entry more h))
      (table_there more (All-tail (λ entry. IsWithin (reach_of_meaning entry.1) n) entry more h))

  -- WHAT IS GIVEN

  first_given : (x : Option Pending) → HoldsFirst There IsInternal x → IsWithin (reach_of_first x) n
  first_given (Some x) h = pending_within x h
  first_given None h = none_in n

  internal_within : (k : ℕ) → IsInternal k → IsWithin (one_internal k) n
  internal_within k h = record { unknowns = omega arith; slots = omega arith; symbols = omega arith; internals = omega (arith, h) }

  front_given : (x : Front) → HoldsFront There IsInternal x → IsWithin (reach_of_front x) n
  front_given (front.Number u) h = none_in n
  front_given front.Text h = none_in n
  front_given front.Capsule h = none_in n
  front_given (front.Word symbol w) h = h
  front_given (front.Tag symbol) h = h
  front_given (front.Internal symbol k) h = both_within (one_symbol symbol) (one_internal k) n h.0 (internal_within k h.1)
  front_given (front.Operator symbol) h = h
  front_given (front.Left symbol pair) h = both_within (one_symbol symbol) (reach_of_pair pair) n h.0 (pair_within pair h.1)
  front_given (front.Right symbol pair) h = both_within (one_symbol symbol) (reach_of_pair pair) n h.0 (pair_within pair h.1)
  front_given front.EndOfText h = none_in n

  step_given : (x : Step) → HoldsStep There IsInternal x → IsWithin (reach_of_step x) n
  step_given step.More h = none_in n
  step_given (step.Front x) h = front_given x h
  step_given (step.Text bytes) h = none_in n
  step_given (step.Capsule v) h = h
  step_given (step.Want w) h = none_in n

  -- WHAT A FUNCTION LEAVES

  -- where memory ran out too
  pub left_by : {A : Type 0} (Q : A → Type 0) (result : Result A Stop) (s t : Expansion) (o : OutcomeBy Cause Expansion A) → Yields result t o
      → (result ≡ Err stop.NoMemory → IsLeft s t) → HoldsAfter There IsInternal Q o → IsWithin (reach_of_expansion s) n → IsWithin (reach_of_expansion t) n
  left_by {A = A} Q (Ok x) s t o gives lost h hs =
      let after : HoldsAfter There IsInternal Q (Ok (x, t)) = subst (λ (o : OutcomeBy Cause Expansion A). HoldsAfter There IsInternal Q o) gives h in
      within t after.1
  left_by {A = A} Q (Err stop.NoMemory) s t o gives lost h hs = within t ((invents_nothing There IsInternal).lost s t (lost refl) (there s hs))
  left_by {A = A} Q (Err (stop.Refused e)) s t o gives lost h hs = within t (subst (λ (o : OutcomeBy Cause Expansion A). HoldsAfter There IsInternal Q o) (gives (λ e. cc)) h)
  left_by {A = A} Q (Err stop.OutOfSteps) s t o gives lost h hs = within t (subst (λ (o : OutcomeBy Cause Expansion A). HoldsAfter There IsInternal Q o) (gives (λ e. cc)) h)
  left_by {A = A} Q (Err (stop.Unread name)) s t o gives lost h hs = within t (subst (λ (o : OutcomeBy Cause Expansion A). HoldsAfter There IsInternal Q o) (gives (λ e. cc)) h)

  given_by : {A : Type 0} (f : A → Counts) (Q : A → Type 0) (result : Result A Stop) (t : Expansion) (o : OutcomeBy Cause Expansion A) → Yields result t o
      → ((x : A) → Q x → IsWithin (f x) n) → HoldsAfter There IsInternal Q o → IfOk result (λ x. IsWithin (f x) n)
  given_by {A = A} f Q (Ok x) t o gives of_q h =
      let after : HoldsAfter There IsInternal Q (Ok (x, t)) = subst (λ (o : OutcomeBy Cause Expansion A). HoldsAfter There IsInternal Q o) gives h in
      of_q x after.0
  given_by f Q (Err made) t o gives of_q h = tt

  whole_left : {A : Type 0} (result : Result A Stop) (s t : Expansion) → IsWhole result s t → result ≡ Err stop.NoMemory → IsLeft s t
  whole_left result s t whole e = let same = whole e in (inl same.0, inl same.1)

  taken_within : (s t : Expansion) (result : Result (Option Pending) Stop) → Yields result t (take_first s) → IsWhole result s t
      → IsWithin (reach_of_expansion s) n → IsWithin (reach_of_expansion t) n × IfOk result (λ x. IsWithin (reach_of_first x) n)
  taken_within s t result gives whole h =
      let holds = (invents_nothing There IsInternal).taken s (there s h) in (
        left_by (HoldsFirst There IsInternal) result s t (take_first s) gives (whole_left result s t whole) holds h,
        given_by reach_of_first (HoldsFirst There IsInternal) result t (take_first s) gives first_given holds,
      )

  advanced_within : (table : Table) (s t : Expansion) (result : Result Step Stop) → Yields result t (advance table s) → LosesFirst result s t
      → All (λ entry. IsWithin (reach_of_meaning entry.1) n) table → IsWithin (reach_of_expansion s) n
      → IsWithin (reach_of_expansion t) n × IfOk result (λ x. IsWithin (reach_of_step x) n)
  advanced_within table s t result gives lost names h =
      let holds = (invents_nothing There IsInternal).advanced table s (table_there table names) (there s h) in (
        left_by (HoldsStep There IsInternal) result s t (advance table s) gives lost holds h,
        given_by reach_of_step (HoldsStep There IsInternal) result t (advance table s) gives step_given holds,
      )

  answered_within : (table : Table) (a : Answer) (x : Front) (s t : Expansion) (result : Result Step Stop) → Yields result t (answered table a x s)
      → LosesFirst result s t → IsWithin (greatest reach_of_item (items_of a)) n → IsWithin (reach_of_expansion s) n
      → IsWithin (reach_of_expansion t) n × IfOk result (λ x. IsWithin (reach_of_step x) n)
  answered_within table a x s t result gives lost answer h =
      let holds = (invents_nothing There IsInternal).answered table a x s (items_there (items_of a) answer) (there s h) in (
        left_by (HoldsStep There IsInternal) result s t (answered table a x s) gives lost holds h,
        given_by reach_of_step (HoldsStep There IsInternal) result t (answered table a x s) gives step_given holds,
      )

  called_within : (m : Macro) (got : List (List Item)) (s t : Expansion) (result : Result Step Stop) → Yields result t (call m got s)
      → IsWhole result s t → IsWithin (reach_of_macro m) n → IsWithin (greatest (greatest reach_of_item) got) n → IsWithin (reach_of_expansion s) n
      → IsWithin (reach_of_expansion t) n × IfOk result (λ x. IsWithin (reach_of_step x) n)
  called_within m got s t result gives whole body arguments h =
      let holds = (invents_nothing There IsInternal).called m got s (items_there m.body body) (lists_there got arguments) (there s h) in (
        left_by (HoldsStep There IsInternal) result s t (call m got s) gives (whole_left result s t whole) holds h,
        given_by reach_of_step (HoldsStep There IsInternal) result t (call m got s) gives step_given holds,
      )

  back_left : (result : Result (Unit {0}) Stop) (s t : Expansion) → OnErr result (t ≡ s) → result ≡ Err stop.NoMemory → IsLeft s t
  back_left (Ok x) s t err e = let never : ⊥ = cc in absurd never
  back_left (Err made) s t err e = (inl (ap (λ (t : Expansion). t.text) err), inl (ap (λ (t : Expansion). t.requests) err))

  pub same_within : (s t : Expansion) → t.text ≡ s.text → t.requests ≡ s.requests → IsWithin (reach_of_expansion s) n → IsWithin (reach_of_expansion t) n
  same_within s t text requests h = rw (text, requests) h

module _ (n : Counts) where
  pub taken_text : (s t : Expansion) (result : Result (Option Pending) Stop) → Yields result t (take_first s) → IsWhole result s t
      → IsWithin (reach_of_expansion s) n → IsWithin (reach_of_expansion t) n
  taken_text s t result gives whole h = (taken_within n s t result gives whole h).0

  pub taken_given : (s t : Expansion) (result : Result (Option Pending) Stop) → Yields result t (take_first s) → IsWhole result s t
      → IsWithin (reach_of_expansion s) n → IfOk result (λ x. IsWithin (reach_of_first x) n)
  taken_given s t result gives whole h = (taken_within n s t result gives whole h).1

  pub advanced_text : (table : Table) (s t : Expansion) (result : Result Step Stop) → Yields result t (advance table s) → LosesFirst result s t
      → All (λ entry. IsWithin (reach_of_meaning entry.1) n) table → IsWithin (reach_of_expansion s) n → IsWithin (reach_of_expansion t) n
  advanced_text table s t result gives lost names h = (advanced_within n table s t result gives lost names h).0

  pub advanced_given : (table : Table) (s t : Expansion) (result : Result Step Stop) → Yields result t (advance table s) → LosesFirst result s t
      → All (λ entry. IsWithin (reach_of_meaning entry.1) n) table → IsWithin (reach_of_expansion s) n → IfOk result (λ x. IsWithin (reach_of_step x) n)
  advanced_given table s t result gives lost names h = (advanced_within n table s t result gives lost names h).1

  pub answered_text : (table : Table) (a : Answer) (x : Front) (s t : Expansion) (result : Result Step Stop) → Yields result t (answered table a x s)
      → LosesFirst result s t → IsWithin (greatest reach_of_item (items_of a)) n → IsWithin (reach_of_expansion s) n → IsWithin (reach_of_expansion t) n
  answered_text table a x s t result gives lost answer h = (answered_within n table a x s t result gives lost answer h).0

  pub answered_given : (table : Table) (a : Answer) (x : Front) (s t : Expansion) (result : Result Step Stop) → Yields result t (answered table a x s)
      → LosesFirst result s t → IsWithin (greatest reach_of_item (items_of a)) n → IsWithin (reach_of_expansion s) n → IfOk result (λ x. IsWithin (reach_of_step x) n)
  answered_given table a x s t result gives lost answer h = (answered_within n table a x s t result gives lost answer h).1

  pub called_text : (m : Macro) (got : List (List Item)) (s t : Expansion) (result : Result Step Stop) → Yields result t (call m got s)
      → IsWhole result s t → IsWithin (reach_of_macro m) n → IsWithin (greatest (greatest reach_of_item) got) n → IsWithin (reach_of_expansion s) n
      → IsWithin (reach_of_expansion t) n
  called_text m got s t result gives whole body arguments h = (called_within n m got s t result gives whole body arguments h).0

  pub called_given : (m : Macro) (got : List (List Item)) (s t : Expansion) (result : Result Step Stop) → Yields result t (call m got s)
      → IsWhole result s t → IsWithin (reach_of_macro m) n → IsWithin (greatest (greatest reach_of_item) got) n → IsWithin (reach_of_expansion s) n
      → IfOk result (λ x. IsWithin (reach_of_step x) n)
  called_given m got s t result gives whole body arguments h = (called_within n m got s t result gives whole body arguments h).1

  pub back_text : (x : Item) (s t : Expansion) (result : Result (Unit {0}) Stop) → Yields result t (change (put_back x) s) → OnErr result (t ≡ s)
      → IsWithin (reach_of_item x) n → IsWithin (reach_of_expansion s) n → IsWithin (reach_of_expansion t) n
  back_text x s t result gives err hx h =
      left_by n (λ done. ⊤) result s t (change (put_back x) s) gives (back_left n result s t err) (tt, (invents_nothing (There n) (IsInternal n)).put_back x s hx (there n s h)) h
