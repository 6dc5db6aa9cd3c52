use Rattle.std.proofs.Common.{inl, inr}
use Rattle.mpost.proofs.deliver.try_write.Goals as goal

pub returns-in-Written : goal.returns-in-Written
returns-in-Written g c = inl c.in-Written.ensures.gives

pub returns-in-Failed : goal.returns-in-Failed
returns-in-Failed g c = inr c.in-Failed.ensures.gives
