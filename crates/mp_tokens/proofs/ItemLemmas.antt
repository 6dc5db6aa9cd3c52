-- Items that were read, one after another.
use Rattle.std.proofs.Common.{◌≡◌, ℕ, ◌+◌, ◌≤◌, List, [], ◌∷◌, ◌++◌, length, Option, Some, None, IsSome, true, false, refl, sym, ap, ◌∙◌, ◌<◌, subst, All, unwrap_or, arith, append_assoc, length-append, ◌&&◌, ◌==◌, if◌then◌else◌}
use Rattle.std.specs.List.{AllByRecursion}
use Rattle.std.specs.Str.{bytes_eq}
use Rattle.std.proofs.lemmas.Bool.{cond_both}
use Rattle.std.proofs.lemmas.List.Quantifiers.{position-Some}
use Rattle.std.proofs.lemmas.List.Elements.{All-from_recursion}
use Rattle.std.proofs.lemmas.List.{append-nil, length-map}
use Rattle.mp_symbols.specs.Names.{Names, number_in, with_name}
use Rattle.mp_symbols.specs.Tables.{Table}
use Rattle.mp_symbols.specs.Calls.{Changes, NumberOf, Call, IsForGood}
use Rattle.mp_tokens.proofs.LexemeLemmas.{length-line_items}
use Rattle.mp_tokens.specs.Lines.{lines, is_line_end, begins_with, before_lines}
use Rattle.mp_tokens.specs.Reading.{Took}
use Rattle.mp_tokens.specs.Items.{Item, Symbol, Number, Quoted, Bad, LineEnd, line_items, lines_items, file_items, with_item, with_items, with_names_of, token_in, tokens_in, IsNumbered, GainsSome}
use Rattle.mp_tokens.specs.declared.token.Token.{Token}
use Rattle.mp_tokens.specs.declared.token.Token.TheVariants as token

module _ {M : Type 0} where
  pub with_items-append : (first : M) (names : Names M) (xs ys : List Item) → with_items first names (xs ++ ys) ≡ with_items first (with_items first names xs) ys
  with_items-append first names [] ys = refl
  with_items-append first names (x ∷ xs) ys = with_items-append first (with_item first names x) xs ys

  with_names_of-append : (first : M) (table : Table M) (xs ys : List Item) → with_names_of first table (xs ++ ys) ≡ with_names_of first (with_names_of first table xs) ys
  with_names_of-append first table xs ys = ap (λ names. record table { names = names }) (with_items-append first table.names xs ys)

  -- how far reading has come: what is left of the items
  pub record Reading (first : M) (old new : Table M) (before after : List Token) (items left : List Item) : Type 0 where
    pub done : List Item
    pub split : items ≡ done ++ left
    pub took : Took first old new before after done

  pub Reading-start : (first : M) (names : Table M) (tokens : List Token) (items : List Item) → Reading first names names tokens tokens items items
  Reading-start first names tokens items =
      record { done = []; split = refl; took = record { names = refl; tokens = sym (append-nil tokens) } }

some_number : (o : Option ℕ) → IsSome o → (k : ℕ) × (o ≡ Some k)
some_number None h = absurd (none_is_not h)
  where
    none_is_not : false ≡ true → ⊥
    none_is_not e = cc
some_number (Some k) h = (k, refl)

-- what the law of numbers says of the table of names (mp_symbols, numbers_are_for_good)
module _ {M : Type 0} (given : (table : Table M) (name : List ℕ) (fresh : M) → IsSome (number_in (with_name table.names name fresh) name)) (for_good : (table : Table M) (calls : List (Call M)) → IsForGood table calls) where
  table_of : Names M → Table M
  table_of names = record { names = names; internals = []; saved = [] }

  -- one more name leaves the numbers of the others
  number_in-with_name : (names : Names M) (name other : List ℕ) (fresh : M) (k : ℕ) → number_in names name ≡ Some k → number_in (with_name names other fresh) name ≡ Some k
  unfolding table_of
  number_in-with_name names name other fresh k at = for_good (table_of names) (Changes (NumberOf other fresh) ∷ []) name k at

  -- a table that was given a name has a number for it
  with_name-has : (names : Names M) (name : List ℕ) (fresh : M) → (k : ℕ) × (number_in (with_name names name fresh) name ≡ Some k)
  unfolding table_of
  with_name-has names name fresh = some_number _ (given (table_of names) name fresh)

  -- a table keeps the number of a name
  number_in-with_items : (first : M) (names : Names M) (name : List ℕ) (k : ℕ) (items : List Item) → number_in names name ≡ Some k → number_in (with_items first names items) name ≡ Some k
  number_in-with_items first names name k [] at = at
  number_in-with_items first names name k (Symbol other ∷ items) at =
      number_in-with_items first (with_name names other first) name k items (number_in-with_name names name other first k at)
  number_in-with_items first names name k (other ∷ items) at = number_in-with_items first names name k items at

  -- a table with the name of the item has the same token for it later
  token_in-with_items : (first : M) (names : Names M) (item : Item) (items : List Item) → token_in (with_items first (with_item first names item) items) item ≡ token_in (with_item first names item) item
  token_in-with_items first names (Symbol name) items =
      let own = with_name-has names name first in
      ap (λ o. token.Sym (unwrap_or o 0)) (number_in-with_items first (with_name names name first) name own.0 items own.1 ∙ sym own.1)
  token_in-with_items first names (Number value) items = refl
  token_in-with_items first names (Quoted text) items = refl
  token_in-with_items first names (Bad cause) items = refl
  token_in-with_items first names (LineEnd n) items = refl

  -- the tokens of items in the table that they make
  pub tokens_in-append : (first : M) (names : Names M) (xs ys : List Item)
      → tokens_in (with_items first names (xs ++ ys)) (xs ++ ys) ≡ tokens_in (with_items first names xs) xs ++ tokens_in (with_items first names (xs ++ ys)) ys
  tokens_in-append first names [] ys = refl
  tokens_in-append first names (x ∷ xs) ys =
      let head = token_in-with_items first names x (xs ++ ys) ∙ sym (token_in-with_items first names x xs) in
      let tail = tokens_in-append first (with_item first names x) xs ys in
      (λ j. head j ∷ tail j)

  pub Reading-more : (first : M) (old mid new : Table M) (before between after : List Token) (items ahead xs left : List Item)
      → Reading first old mid before between items ahead → ahead ≡ xs ++ left → Took first mid new between after xs → Reading first old new before after items left
  Reading-more first old mid new before between after items ahead xs left reading parts took =
      let done = reading.done in
      let names : new ≡ with_names_of first old (done ++ xs) =
      took.names ∙ ap (λ t. with_names_of first t xs) reading.took.names ∙ sym (with_names_of-append first old done xs) in
      let tokens : tokens_in mid.names done ++ tokens_in new.names xs ≡ tokens_in new.names (done ++ xs) =
      (λ j. tokens_in (reading.took.names j).names done ++ tokens_in (names j).names xs)
      ∙ sym (tokens_in-append first old.names done xs)
      ∙ ap (λ t. tokens_in t.names (done ++ xs)) (sym names) in
      record {
        done = done ++ xs;
        split = reading.split ∙ ap (λ l. done ++ l) parts ∙ sym (append_assoc done xs left);
        took = record {
          names = names;
          tokens = took.tokens ∙ ap (λ l. l ++ tokens_in new.names xs) reading.took.tokens
              ∙ append_assoc before (tokens_in mid.names done) (tokens_in new.names xs) ∙ ap (λ l. before ++ l) tokens;
        };
      }

  -- the table has each symbol
  numbered : (first : M) (names : Names M) (items : List Item) → AllByRecursion (IsNumbered (with_items first names items)) (tokens_in (with_items first names items) items)
  numbered first names [] = tt
  numbered first names (Symbol name ∷ items) =
      let own = with_name-has names name first in
      let table = with_items first (with_name names name first) items in
      let later = number_in-with_items first (with_name names name first) name own.0 items own.1 in
      let inside = position-Some (λ e. bytes_eq name e.0) table own.0 (name, first) later in
      (subst (λ o. unwrap_or o 0 < length table) (sym later) inside.0, numbered first (with_name names name first) items)
  numbered first names (Number value ∷ items) = (tt, numbered first names items)
  numbered first names (Quoted text ∷ items) = (tt, numbered first names items)
  numbered first names (Bad cause ∷ items) = (tt, numbered first names items)
  numbered first names (LineEnd n ∷ items) = (tt, numbered first names items)

  pub AllNumbered : (first : M) (old new : Table M) (tokens : List Token) (items : List Item) → new ≡ with_names_of first old items → tokens ≡ tokens_in new.names items → All (IsNumbered new.names) tokens
  AllNumbered first old new tokens items e f =
      subst (λ l. All (IsNumbered new.names) l) (sym f)
      (subst (λ t. All (IsNumbered t.names) (tokens_in t.names items)) (sym e) (All-from_recursion _ _ (numbered first old.names items)))

module _ {M : Type 0} where
  -- a part of what is left, and what was done before
  pub GainsSome-more : (first : M) (old mid new : Table M) (before between : List Token) (items ahead xs left : List Item)
      → Reading first old mid before between items ahead → ahead ≡ xs ++ left → GainsSome first mid new xs → GainsSome first old new items
  GainsSome-more first old mid new before between items ahead xs left reading parts gains =
      record {
        done = reading.done ++ gains.done;
        left = gains.left ++ left;
        split = reading.split ∙ ap (λ l. reading.done ++ l) parts ∙ ap (λ l. reading.done ++ (l ++ left)) gains.split
            ∙ ap (λ l. reading.done ++ l) (append_assoc gains.done gains.left left)
            ∙ sym (append_assoc reading.done gains.done (gains.left ++ left));
        names = gains.names ∙ ap (λ t. with_names_of first t gains.done) reading.took.names
            ∙ sym (with_names_of-append first old reading.done gains.done);
      }

  pub GainsSome-all : (first : M) (old new : Table M) (items : List Item) → new ≡ with_names_of first old items → GainsSome first old new items
  GainsSome-all first old new items names = record { done = items; left = []; split = sym (append-nil items); names = names }

-- how many bytes lines have, each with an end
size : List (List ℕ) → ℕ
size [] = 0
size (line ∷ more) = length line + 1 + size more

length-lines_items : (number : ℕ) (ls : List (List ℕ)) → length (lines_items number ls) ≤ size ls
unfolding size
length-lines_items number [] = omega arith
length-lines_items number (line ∷ more) =
    omega (arith, length-append (line_items line) (LineEnd number ∷ lines_items (number + 1) more), length-line_items line, length-lines_items (number + 1) more)

size-before_lines : (c n : ℕ) (ls : List (List ℕ)) → size ls ≤ n + 1 → size (before_lines c ls) ≤ n + 2
unfolding size
size-before_lines c n [] h = omega arith
size-before_lines c n (line ∷ more) h = omega arith

size-lines : (bytes : List ℕ) → size (lines bytes) ≤ length bytes + 1
unfolding size
size-lines [] = omega arith
size-lines (c ∷ cs) =
    cond_both (c == 13 && begins_with 10 cs) (lines cs) (if is_line_end c then [] ∷ lines cs else before_lines c (lines cs)) (λ ls. size ls ≤ length (c ∷ cs) + 1)
    (λ _. omega (arith, size-lines cs))
    (λ _. cond_both (is_line_end c) ([] ∷ lines cs) (before_lines c (lines cs)) (λ ls. size ls ≤ length (c ∷ cs) + 1)
    (λ _. omega (arith, size-lines cs))
    (λ _. omega (arith, size-before_lines c (length cs) (lines cs) (size-lines cs))))

-- a file has at most one item more than bytes
pub length-file_items : (bytes : List ℕ) → length (file_items bytes) ≤ length bytes + 1
length-file_items bytes = omega (arith, length-lines_items 1 (lines bytes), size-lines bytes)

-- the first line is left, and the lines behind it
pub lines_items-first : (number next : ℕ) (bytes line rest : List ℕ) → next ≡ number + 1 → lines bytes ≡ line ∷ lines rest
    → lines_items (number + 1) (lines bytes) ≡ line_items line ++ (LineEnd next ∷ lines_items (next + 1) (lines rest))
lines_items-first number next bytes line rest e parts =
    ap (lines_items (number + 1)) parts ∙ ap (λ n. line_items line ++ (LineEnd n ∷ lines_items (n + 1) (lines rest))) (sym e)

module _ {M : Type 0} where
  pub Took-line_end : (first : M) (names : Table M) (before after : List Token) (n : ℕ) → after ≡ before ++ token.LineEnd n ∷ [] → Took first names names before after (LineEnd n ∷ [])
  Took-line_end first names before after n e = record { names = refl; tokens = e }

  pub GainsSome-none : (first : M) (names : Table M) (items : List Item) → GainsSome first names names items
  GainsSome-none first names items = record { done = []; left = items; split = refl; names = refl }

  pub length-Took : (first : M) (old new : Table M) (tokens : List Token) (items : List Item) → Took first old new [] tokens items → length tokens ≡ length items
  length-Took first old new tokens items took = ap length took.tokens ∙ length-map items (token_in new.names)

  -- no more tokens than items so far
  pub length-Reading : (first : M) (old new : Table M) (tokens : List Token) (items left : List Item) → Reading first old new [] tokens items left → length tokens ≤ length items
  length-Reading first old new tokens items left reading =
      omega (arith, length-Took first old new tokens reading.done reading.took, ap length reading.split, length-append reading.done left)
