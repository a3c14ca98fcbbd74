-- What nodes hold.
use Rattle.std.specs.Prelude.{Bool, true, false}
use Rattle.node_chains.specs.declared.node.Content.{Content}
use Rattle.node_chains.specs.declared.node.Content.TheVariants.{Map}

abbrev pub is_map : Content → Bool
is_map Map = true
is_map _ = false
