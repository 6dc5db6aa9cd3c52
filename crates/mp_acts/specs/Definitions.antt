-- Definitions of macros, as they are read.
use Rattle.mp_macro.specs.declared.reader.GroupSymbols.{GroupSymbols}

-- begingroup and endgroup, which are the symbols behind the two parentheses
abbrev pub group_symbols : GroupSymbols
group_symbols = record { begin = 2; end = 3 }
