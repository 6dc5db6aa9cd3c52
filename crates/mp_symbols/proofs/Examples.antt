-- Worked examples: the definitions compute. Meanings are numbers.
use Rattle.std.proofs.Common.{◌≡◌, ℕ, pos, [], ◌∷◌, Some, None, codes, refl}
use Rattle.mp_symbols.specs.Names.{Names, number_in, with_name}
use Rattle.mp_symbols.specs.Tables.{Table}
use Rattle.mp_symbols.specs.Groups.{open_group, save, save_internal, with_symbol, close_group}
use Rattle.mp_symbols.specs.Calls.{Inside, End, Then, Saves, SavesInternal, Group, NumberOf, SetMeaning, SetInternal, ended, after, lasting}
use Rattle.mp_symbols.specs.declared.saved.Saved.TheVariants.{Boundary, Meaning}
use Rattle.mp_symbols.specs.declared.closed.Closed.TheVariants as closed

abbrev two_names : Names ℕ
two_names = (codes "a", 1) ∷ (codes "b", 2) ∷ []

abbrev table : Table ℕ
table = record { names = two_names; internals = pos 10 ∷ []; saved = [] }

-- a name that is there keeps its number and its meaning, and a new one goes last
present_name : with_name two_names (codes "a") 7 ≡ two_names
present_name = refl

new_name : number_in (with_name two_names (codes "ab") 7) (codes "ab") ≡ Some 2
new_name = refl

absent_name : number_in two_names (codes "A") ≡ None
absent_name = refl

-- outside a group nothing is saved, and nothing undone
outside : save table 0 5 ≡ with_symbol table 0 5
outside = refl

nothing_open : close_group (save_internal (save table 0 5) 0) ≡ (closed.NoGroup, with_symbol table 0 5)
nothing_open = refl

-- in a group, a symbol is saved twice, and then gets another meaning
abbrev saved_twice : Table ℕ
saved_twice = with_symbol (save (save (open_group table) 0 3) 0 4) 0 5

undone_later : saved_twice ≡ record { names = (codes "a", 5) ∷ (codes "b", 2) ∷ []; internals = pos 10 ∷ []; saved = Meaning 0 3 ∷ Meaning 0 1 ∷ Boundary ∷ [] }
undone_later = refl

-- the newest is undone first, and what it had in between is given up
undone_once : close_group saved_twice ≡ (closed.Meaning 0 5, record { names = (codes "a", 3) ∷ (codes "b", 2) ∷ []; internals = pos 10 ∷ []; saved = Meaning 0 1 ∷ Boundary ∷ [] })
undone_once = refl

undone_all : ended saved_twice ≡ table
undone_all = refl

-- begingroup a:=6; save a; a:=7; begingroup interim k:=20; save b; a:=8; b:=9; endgroup; c:=1; endgroup
abbrev inside : Inside ℕ
inside =
    Then (SetMeaning 0 6) (Saves 0 0 (Then (SetMeaning 0 7)
    (Group (SavesInternal 0 (Then (SetInternal 0 (pos 20)) (Saves 1 0 (Then (SetMeaning 0 8) (Then (SetMeaning 1 9) End)))))
    (Then (NumberOf (codes "c") 1) End))))

-- what was set before it was saved lasts, and a new name
lasting_inside : lasting inside (open_group table) ≡ SetMeaning 0 6 ∷ NumberOf (codes "c") 1 ∷ []
lasting_inside = refl

after_all : ended (after inside (open_group table)) ≡ record { names = (codes "a", 6) ∷ (codes "b", 2) ∷ (codes "c", 1) ∷ []; internals = pos 10 ∷ []; saved = [] }
after_all = refl
