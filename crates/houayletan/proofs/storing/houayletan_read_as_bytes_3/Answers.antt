use Rattle.node_file.specs.NodeFile.{ReadsNodes}
use Rattle.houayletan.proofs.Flattening.{flat_stored_lem}
use Rattle.houayletan.proofs.storing.houayletan_read_as_bytes_3.Goals as goal

pub returns : goal.returns
returns c = flat_stored_lem (ReadsNodes _ _ _) c.read_as_bytes.ensures _ c.from.ensures
