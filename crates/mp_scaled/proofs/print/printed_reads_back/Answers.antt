use Rattle.mp_scaled.proofs.ReadBack.{decimal_of-printed}
use Rattle.mp_scaled.proofs.print.printed_reads_back.Goals as goal

pub returns : goal.returns
returns c = decimal_of-printed
