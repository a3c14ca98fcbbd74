-- What stands for an object where a list has none.
use Rattle.std.specs.Prelude.{[]}
use Rattle.types.specs.Identities.{root_id}
use Rattle.types.specs.declared.types.ObjType.TheVariants.{Map}
use Rattle.meaning.specs.Rows.{map_of}
use Rattle.meaning.specs.Documents.{Obj}

abbrev pub no_obj : Obj
no_obj = record { ident = root_id; kind = Map; parent = root_id; row = map_of [] }
