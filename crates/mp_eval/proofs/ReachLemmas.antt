-- The items of a file speak of no symbols but those of the table that its names were put into.
use Rattle.std.proofs.Common.{◌≡◌, ℕ, ◌≤◌, List, [], ◌∷◌, ◌++◌, length, arith}
use Rattle.std.specs.Prelude.{All}
use Rattle.std.proofs.lemmas.List.Elements.{All-head, All-tail}
use Rattle.mp_symbols.specs.Names.{Names}
use Rattle.mp_tokens.specs.declared.token.Token.{Token}
use Rattle.mp_tokens.specs.declared.token.Token.TheVariants as token
use Rattle.mp_tokens.specs.Items.{IsNumbered}
use Rattle.mp_values.specs.Items.{item_of, file_items}
use Rattle.mp_values.specs.declared.meaning.Meaning.{Meaning}
use Rattle.mp_values.specs.declared.turn.Pending.{Pending}
use Rattle.mp_input.specs.Lines.{items_pending}
use Rattle.mp_acts.specs.Counts.{Counts, nothing, most, greatest, IsWithin}
use Rattle.mp_acts.specs.Reach.{reach_of_item}
use Rattle.mp_expand.specs.Expansion.{Expansion}
use Rattle.mp_rules.specs.Reach.{reach_of_text, reach_of_request, reach_of_expansion}
use Rattle.mp_eval.specs.Run.{unread}

none_in : (n : Counts) → IsWithin nothing n
none_in n = record { unknowns = omega arith; slots = omega arith; symbols = omega arith; internals = omega arith }

pub within_more : (a b c : Counts) → IsWithin a b → IsWithin b c → IsWithin a c
within_more a b c h k = record {
  unknowns = omega (arith, h.unknowns, k.unknowns);
  slots = omega (arith, h.slots, k.slots);
  symbols = omega (arith, h.symbols, k.symbols);
  internals = omega (arith, h.internals, k.internals);
}

both_within : (a b n : Counts) → IsWithin a n → IsWithin b n → IsWithin (most a b) n
both_within a b n h k = record {
  unknowns = omega (arith, h.unknowns, k.unknowns);
  slots = omega (arith, h.slots, k.slots);
  symbols = omega (arith, h.symbols, k.symbols);
  internals = omega (arith, h.internals, k.internals);
}

first_of : (a b n : Counts) → IsWithin (most a b) n → IsWithin a n
first_of a b n h = record {
  unknowns = omega (arith, h.unknowns);
  slots = omega (arith, h.slots);
  symbols = omega (arith, h.symbols);
  internals = omega (arith, h.internals);
}

second_of : (a b n : Counts) → IsWithin (most a b) n → IsWithin b n
second_of a b n h = record {
  unknowns = omega (arith, h.unknowns);
  slots = omega (arith, h.slots);
  symbols = omega (arith, h.symbols);
  internals = omega (arith, h.internals);
}

module _ (n : Counts) (names : Names Meaning) (all : length names ≤ n.symbols) where
  token_within : (file : ℕ) (t : Token) → IsNumbered names t → IsWithin (reach_of_item (item_of file t)) n
  token_within file (token.Sym symbol) h = record { unknowns = omega arith; slots = omega arith; symbols = omega (arith, h, all); internals = omega arith }
  token_within file (token.Num value) h = none_in n
  token_within file (token.Text bytes) h = none_in n
  token_within file (token.Bad cause) h = none_in n
  token_within file (token.LineEnd line) h = none_in n

  pub file_within : (file : ℕ) (ts : List Token) (text : List Pending) → All (IsNumbered names) ts → IsWithin (reach_of_text text) n
      → IsWithin (reach_of_text (items_pending (file_items file ts) ++ text)) n
  unfolding greatest
  file_within file [] text numbered h = both_within nothing (reach_of_text text) n (none_in n) h
  file_within file (t ∷ ts) text numbered h =
      both_within (reach_of_item (item_of file t)) (reach_of_text (items_pending (file_items file ts) ++ text)) n
      (token_within file t (All-head (IsNumbered names) t ts numbered)) (file_within file ts text (All-tail (IsNumbered names) t ts numbered) h)

  -- a file in front of a text, behind which the same calls wait
  pub put_within : (file : ℕ) (ts : List Token) (e : Expansion) → All (IsNumbered names) ts → IsWithin (reach_of_expansion e) n
      → IsWithin (reach_of_expansion (record e { text = items_pending (file_items file ts) ++ e.text })) n
  put_within file ts e numbered h =
      let text = file_within file ts e.text numbered (first_of (reach_of_text e.text) (greatest reach_of_request e.requests) n h) in
      both_within (reach_of_text (items_pending (file_items file ts) ++ e.text)) (greatest reach_of_request e.requests) n text
      (second_of (reach_of_text e.text) (greatest reach_of_request e.requests) n h)

-- nothing is left before a file is put in front
pub nothing_unread : (n : Counts) (budget : ℕ) (e : Expansion) → e ≡ unread budget → IsWithin (reach_of_expansion e) n
unfolding greatest
nothing_unread n budget e is = rw is (none_in n)
