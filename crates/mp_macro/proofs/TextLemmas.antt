-- Bodies are read as what they say.
use Rattle.std.proofs.Common.{◌≡◌, refl, ap, sym, ◌∙◌, ℕ, suc, List, [], ◌∷◌, ◌++◌, Some, append_assoc}
use Rattle.std.proofs.lemmas.List.{append-nil}
use Rattle.mp_values.specs.Outcome.{Outcome, then}
use Rattle.mp_values.specs.declared.item.Item.{Item}
use Rattle.mp_values.specs.declared.item.Item.TheVariants as item
use Rattle.mp_macro.specs.Signs.{Table, sign_of_symbol}
use Rattle.mp_macro.specs.Headings.{Reading}
use Rattle.mp_macro.specs.Bodies.{Begins, Ends, Neither, count_of, parameter_by, closing, symbol_by, word_by}
use Rattle.mp_macro.specs.Definitions.{read, read_items}
use Rattle.mp_macro.specs.Texts.{IsNoParameter, IsOperand, Text, Empty, Line, Operand, Parameter, Other, Inner, text_written, text_said, BodiesAreRead}
use Rattle.mp_macro.specs.declared.stage.Stage.TheVariants.{Body, Nothing}

-- a body so far
abbrev in_body : ℕ → List Item → Reading → Reading
in_body depth body r = record r { next = Body depth; body = body }

abbrev then_read : Table → List Item → Outcome Reading (Unit {0}) → Outcome Reading (Unit {0})
then_read table xs o = then o (λ one. read_items table xs)

operand_read : (table : Table) (r : Reading) (x : Item) (xs body : List Item) (depth : ℕ) → IsOperand x →
    read_items table (x ∷ xs) (in_body depth body r) ≡ read_items table xs (in_body depth (body ++ x ∷ []) r)
unfolding read
operand_read table r (item.Number n) xs body depth is = refl
operand_read table r (item.Text bytes) xs body depth is = refl
operand_read table r (item.Capsule v) xs body depth is = refl
operand_read table r (item.Symbol s) xs body depth is = elim is [ ]
operand_read table r (item.Bad cause) xs body depth is = elim is [ ]
operand_read table r (item.Param n) xs body depth is = elim is [ ]
operand_read table r (item.LineEnd place) xs body depth is = elim is [ ]
operand_read table r item.FileEnd xs body depth is = elim is [ ]
operand_read table r item.EndOfText xs body depth is = elim is [ ]

parameter_read : (table : Table) (r : Reading) (s n : ℕ) (xs body : List Item) (depth : ℕ) → parameter_by r s (sign_of_symbol table s) ≡ Some n →
    read_items table (item.Symbol s ∷ xs) (in_body depth body r) ≡ read_items table xs (in_body depth (body ++ item.Param n ∷ []) r)
unfolding read
parameter_read table r s n xs body depth is = ap (λ o. then_read table xs (symbol_by s depth (sign_of_symbol table s) o (in_body depth body r))) is

-- a symbol that is no parameter goes by how it is counted
counted_read : (table : Table) (r : Reading) (s : ℕ) (xs body : List Item) (depth : ℕ) → IsNoParameter table r s →
    read_items table (item.Symbol s ∷ xs) (in_body depth body r) ≡ then_read table xs (word_by s depth (count_of (sign_of_symbol table s)) (in_body depth body r))
unfolding read
counted_read table r s xs body depth free = ap (λ o. then_read table xs (symbol_by s depth (sign_of_symbol table s) o (in_body depth body r))) free

other_read : (table : Table) (r : Reading) (s : ℕ) (xs body : List Item) (depth : ℕ) → IsNoParameter table r s → count_of (sign_of_symbol table s) ≡ Neither →
    read_items table (item.Symbol s ∷ xs) (in_body depth body r) ≡ read_items table xs (in_body depth (body ++ item.Symbol s ∷ []) r)
other_read table r s xs body depth free e = counted_read table r s xs body depth free ∙ ap (λ c. then_read table xs (word_by s depth c (in_body depth body r))) e

begin_read : (table : Table) (r : Reading) (s : ℕ) (xs body : List Item) (depth : ℕ) → IsNoParameter table r s → count_of (sign_of_symbol table s) ≡ Begins →
    read_items table (item.Symbol s ∷ xs) (in_body depth body r) ≡ read_items table xs (in_body (suc depth) (body ++ item.Symbol s ∷ []) r)
begin_read table r s xs body depth free e = counted_read table r s xs body depth free ∙ ap (λ c. then_read table xs (word_by s depth c (in_body depth body r))) e

end_read : (table : Table) (r : Reading) (s : ℕ) (xs body : List Item) (depth : ℕ) → IsNoParameter table r s → count_of (sign_of_symbol table s) ≡ Ends →
    read_items table (item.Symbol s ∷ xs) (in_body (suc depth) body r) ≡ read_items table xs (in_body depth (body ++ item.Symbol s ∷ []) r)
end_read table r s xs body depth free e =
    counted_read table r s xs body (suc depth) free ∙ ap (λ c. then_read table xs (word_by s (suc depth) c (in_body (suc depth) body r))) e

alike : (table : Table) (r : Reading) (xs : List Item) (depth : ℕ) {a b : List Item} → a ≡ b → read_items table xs (in_body depth a r) ≡ read_items table xs (in_body depth b r)
alike table r xs depth e = ap (λ a. read_items table xs (in_body depth a r)) e

-- what an inner definition says, behind a body
inner_said : (body inner more : List Item) (x y : Item) → ((((body ++ x ∷ []) ++ inner) ++ y ∷ []) ++ more) ≡ body ++ x ∷ (inner ++ y ∷ more)
inner_said body inner more x y =
    append_assoc ((body ++ x ∷ []) ++ inner) (y ∷ []) more
    ∙ append_assoc (body ++ x ∷ []) inner (y ∷ more)
    ∙ append_assoc body (x ∷ []) (inner ++ y ∷ more)

text_read : (table : Table) (r : Reading) (t : Text table r) (xs body : List Item) (depth : ℕ) →
    read_items table (text_written t xs) (in_body depth body r) ≡ read_items table xs (in_body depth (body ++ text_said t) r)
unfolding read
text_read table r Empty xs body depth = alike table r xs depth (sym (append-nil body))
text_read table r (Line place more) xs body depth = text_read table r more xs body depth
text_read table r (Operand x is more) xs body depth =
    operand_read table r x (text_written more xs) body depth is
    ∙ text_read table r more xs (body ++ x ∷ []) depth
    ∙ alike table r xs depth (append_assoc body (x ∷ []) (text_said more))
text_read table r (Parameter s n is more) xs body depth =
    parameter_read table r s n (text_written more xs) body depth is
    ∙ text_read table r more xs (body ++ item.Param n ∷ []) depth
    ∙ alike table r xs depth (append_assoc body (item.Param n ∷ []) (text_said more))
text_read table r (Other s free neither more) xs body depth =
    other_read table r s (text_written more xs) body depth free neither
    ∙ text_read table r more xs (body ++ item.Symbol s ∷ []) depth
    ∙ alike table r xs depth (append_assoc body (item.Symbol s ∷ []) (text_said more))
text_read table r (Inner s e free begins free_too ends inner more) xs body depth =
    begin_read table r s (text_written inner (item.Symbol e ∷ text_written more xs)) body depth free begins
    ∙ text_read table r inner (item.Symbol e ∷ text_written more xs) (body ++ item.Symbol s ∷ []) (suc depth)
    ∙ end_read table r e (text_written more xs) ((body ++ item.Symbol s ∷ []) ++ text_said inner) depth free_too ends
    ∙ text_read table r more xs (((body ++ item.Symbol s ∷ []) ++ text_said inner) ++ item.Symbol e ∷ []) depth
    ∙ alike table r xs depth (inner_said body (text_said inner) (text_said more) (item.Symbol s) (item.Symbol e))

last_read : (table : Table) (r : Reading) (s : ℕ) (xs body : List Item) → IsNoParameter table r s → count_of (sign_of_symbol table s) ≡ Ends →
    read_items table (item.Symbol s ∷ xs) (in_body 0 body r) ≡ read_items table xs (record r { next = Nothing; body = body ++ closing r.word r.group })
last_read table r s xs body free e = counted_read table r s xs body 0 free ∙ ap (λ c. then_read table xs (word_by s 0 c (in_body 0 body r))) e

pub bodies_are_read : BodiesAreRead
bodies_are_read table r t last rest free ends = text_read table r t (item.Symbol last ∷ rest) r.body 0 ∙ last_read table r last rest (r.body ++ text_said t) free ends
