use Rattle.placing.proofs.Stores.{corners_listed}
use Rattle.placing.proofs.corners.Goals as goal

pub returns : goal.returns
returns c = corners_listed _ _
