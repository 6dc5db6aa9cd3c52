-- What the objects outside show: a count of their faults, and what they tell, if anything.
use Rattle.std.specs.Prelude.{ℕ, List, Option}
use Rattle.mp_files.specs.declared.outside.Contents.{Contents}

-- what files tell: the names that were fetched so far, and the content of each name
pub record FilesTold : Type 0 where
  pub asked : List (List ℕ)
  pub contents : List ℕ → Contents

pub record FilesSeen : Type 0 where
  pub faults : ℕ
  pub told : Option FilesTold

-- a shelf tells its pairs of a name and bytes
pub record ShelfSeen : Type 0 where
  pub faults : ℕ
  pub pairs : Option (List (List ℕ × List ℕ))

-- a sink tells its bytes
pub record SinkSeen : Type 0 where
  pub faults : ℕ
  pub bytes : Option (List ℕ)
