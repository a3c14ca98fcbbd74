use Rattle.value_tree.proofs.Updates.{part_is, follows_leads, follows_length, update_then, leads_update, part_update, update_child, kids_insert, kids_delete, kids_none, relabel_then, respelled_more, respelled_put, respelled_none}
use Rattle.value_tree.proofs.laws.updates_hold.Goals as goal

pub returns : goal.returns
returns g c = record {
  part_is = part_is;
  follows_leads = follows_leads;
  follows_length = follows_length;
  update_then = update_then;
  leads_update = leads_update;
  part_update = part_update;
  update_child = update_child;
  kids_insert = kids_insert;
  kids_delete = kids_delete;
  kids_none = kids_none;
  relabel_then = relabel_then;
  respelled_more = respelled_more;
  respelled_put = respelled_put;
  respelled_none = respelled_none;
}
