use Rattle.shelf.proofs.tree.+show_object.Given as goal

abbrev pub decreases-show_object : goal.decreases-show_object
decreases-show_object g l = l.left
