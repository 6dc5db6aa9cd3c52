-- Tables after many calls: what the laws of names and of groups speak of.
use Rattle.std.specs.Prelude.{◌≡◌, ℕ, ℤ, Bool, false, not, ◌||◌, nat_eq, List, [], ◌∷◌, ◌++◌, Some, fold, filter, if◌then◌else◌}
use Rattle.mp_symbols.specs.Names.{number_in, with_name}
use Rattle.mp_symbols.specs.Tables.{Table}
use Rattle.mp_symbols.specs.Groups.{with_symbol, with_internal, open_group, save, save_internal, close_group}
use Rattle.mp_symbols.specs.declared.saved.Saved.{Saved}
use Rattle.mp_symbols.specs.declared.saved.Saved.TheVariants.{Boundary, Meaning, Number}

-- a call that changes names or internals, and saves nothing
pub data Change (M : Type 0) : Type 0 where
  NumberOf : List ℕ → M → Change M
  SetMeaning : ℕ → M → Change M
  NewInternal : ℤ → Change M
  SetInternal : ℕ → ℤ → Change M

-- a call that may change a table
pub data Call (M : Type 0) : Type 0 where
  Changes : Change M → Call M
  Save : ℕ → M → Call M
  SaveInternal : ℕ → Call M
  OpenGroup : Call M
  CloseGroup : Call M

-- what is done in a group: nothing more; a change, or something saved, and then more; an inner group, and then more
pub data Inside (M : Type 0) : Type 0 where
  End : Inside M
  Then : Change M → Inside M → Inside M
  Saves : ℕ → M → Inside M → Inside M
  SavesInternal : ℕ → Inside M → Inside M
  Group : Inside M → Inside M → Inside M

module _ {M : Type 0} where
  -- the table after a change
  abbrev pub changed : Table M → Change M → Table M
  changed table (NumberOf name fresh) = record table { names = with_name table.names name fresh }
  changed table (SetMeaning symbol new) = with_symbol table symbol new
  changed table (NewInternal value) = record table { internals = table.internals ++ value ∷ [] }
  changed table (SetInternal k value) = with_internal table k value

  -- the table after a call
  abbrev pub called : Table M → Call M → Table M
  called table (Changes change) = changed table change
  called table (Save symbol fresh) = save table symbol fresh
  called table (SaveInternal k) = save_internal table k
  called table OpenGroup = open_group table
  called table CloseGroup = (close_group table).1

  -- a name has one number for good: after any calls the number that it had
  abbrev pub IsForGood : Table M → List (Call M) → Type 0
  IsForGood table calls =
      (name : List ℕ) (symbol : ℕ) → number_in table.names name ≡ Some symbol → number_in (fold called table calls).names name ≡ Some symbol

  -- the innermost group ends: a call of close_group for each thing that it saved, and one more
  abbrev pub ended_by : List (Saved M) → Table M → Table M
  ended_by [] table = table
  ended_by (Boundary ∷ older) table = (close_group table).1
  ended_by (entry ∷ older) table = ended_by older (close_group table).1

  abbrev pub ended : Table M → Table M
  ended table = ended_by table.saved table

  -- the table after what is done in a group, before the group ends
  abbrev pub after : Inside M → Table M → Table M
  after End table = table
  after (Then change more) table = after more (changed table change)
  after (Saves symbol fresh more) table = after more (save table symbol fresh)
  after (SavesInternal k more) table = after more (save_internal table k)
  after (Group inner more) table = after more (ended (after inner (open_group table)))

  -- whether the innermost group saved a symbol, or an internal
  abbrev pub has_saved : ℕ → List (Saved M) → Bool
  has_saved symbol [] = false
  has_saved symbol (Boundary ∷ older) = false
  has_saved symbol (Meaning other old ∷ older) = nat_eq symbol other || has_saved symbol older
  has_saved symbol (Number k old ∷ older) = has_saved symbol older

  abbrev pub has_saved_internal : ℕ → List (Saved M) → Bool
  has_saved_internal k [] = false
  has_saved_internal k (Boundary ∷ older) = false
  has_saved_internal k (Meaning symbol old ∷ older) = has_saved_internal k older
  has_saved_internal k (Number other old ∷ older) = nat_eq k other || has_saved_internal k older

  -- whether the end of the innermost group gives back what the change takes: another meaning or value of what was
  -- saved before
  abbrev pub is_given_back : List (Saved M) → Change M → Bool
  is_given_back saved (SetMeaning symbol new) = has_saved symbol saved
  is_given_back saved (SetInternal k value) = has_saved_internal k saved
  is_given_back saved other = false

  -- the changes that last beyond the end of the group: new names and internals, and meanings and values that were set
  -- before they were saved; of an inner group those that last beyond its end, unless this one gives them back
  abbrev pub lasting : Inside M → Table M → List (Change M)
  lasting End table = []
  lasting (Then change more) table =
      if is_given_back table.saved change then lasting more (changed table change) else change ∷ lasting more (changed table change)
  lasting (Saves symbol fresh more) table = lasting more (save table symbol fresh)
  lasting (SavesInternal k more) table = lasting more (save_internal table k)
  lasting (Group inner more) table =
      filter (λ change. not (is_given_back table.saved change)) (lasting inner (open_group table))
      ++ lasting more (ended (after inner (open_group table)))

  -- a group gives back all but the changes that last: the table after it is the one that these alone had made
  abbrev pub GivesBack : Table M → Inside M → Type 0
  GivesBack table inside = ended (after inside (open_group table)) ≡ fold changed table (lasting inside (open_group table))
