use Rattle.std.proofs.Common.{refl, arith}
use Rattle.std.specs.Ordering.{is_lt, is_gt, nat_cmp}
use Rattle.std.proofs.lemmas.Cmp.{same_from_slice_cmp_tested}
use Rattle.std.proofs.lemmas.Bool.Decides.{nat_tests}
use Rattle.meaning.specs.Entries.{compare_keys}
use Rattle.document.proofs.row.key_before.Goals as goal

-- the library's comparison of slices is the order of keys
pub returns : goal.returns
returns c =
    same_from_slice_cmp_tested nat_cmp is_lt (λ xs ys. is_gt (compare_keys ys xs)) refl (λ _ _. refl) (λ _ _. refl) (λ x y xs ys o h. grind (arith, nat_tests)) c.args.a.now c.args.b.now c.lt.result c.lt.ensures
