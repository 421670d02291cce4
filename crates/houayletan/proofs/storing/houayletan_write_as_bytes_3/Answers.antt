use Rattle.node_file.specs.NodeFile.{WritesNodes}
use Rattle.houayletan.proofs.Flattening.{flat_stored_lem}
use Rattle.houayletan.proofs.storing.houayletan_write_as_bytes_3.Goals as goal

pub returns : goal.returns
returns c = flat_stored_lem (WritesNodes _ _ _) c.write_as_bytes.ensures _ c.from.ensures
