use Rattle.value_tree.proofs.Propers.{proper_prop, proper_tidy, proper_part, proper_update, placed_proper, over_proper, insert_map, insert_list, delete_kids, flag_proper, raise_proper, respell_proper}
use Rattle.value_tree.proofs.laws.propers_hold.Goals as goal

pub returns : goal.returns
returns g c = record {
  proper_prop = proper_prop;
  proper_tidy = proper_tidy;
  proper_part = proper_part;
  proper_update = proper_update;
  placed_proper = placed_proper;
  over_proper = over_proper;
  insert_map = insert_map;
  insert_list = insert_list;
  delete_kids = delete_kids;
  flag_proper = flag_proper;
  raise_proper = raise_proper;
  respell_proper = respell_proper;
}
