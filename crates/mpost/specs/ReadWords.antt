-- What was read of the words of a command line.
use Rattle.std.specs.Prelude.{◌≡◌}
use Rattle.mpost.specs.declared.words.Command.{Command}
use Rattle.mpost.specs.declared.words.Command.TheVariants as command
use Rattle.mpost.specs.CommandWords.{Words, RefusedAt, Accepted, command_line}

-- what was read is what the words say
abbrev pub ReadAs : Words → Command → Type 0
ReadAs said (command.Refused word) = said ≡ RefusedAt word
ReadAs said (command.Accepted options file) = said ≡ Accepted (command_line options file.now)
