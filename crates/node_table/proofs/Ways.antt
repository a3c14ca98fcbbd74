-- The way to a container whose children change.
use Rattle.std.proofs.Common.{◌≡◌, ℕ, ◌<◌, List, [], ◌∷◌, length, get_or, sym, ap, ◌∙◌, subst, arith}
use Rattle.packed_rows.specs.Rows.{row}
use Rattle.node_chains.specs.Tree.{reach, Steps}
use Rattle.node_chains.specs.Chains.{Placing, Moved, Unlinked, up_at, lev_at}
use Rattle.node_table.specs.Held.{Stands, Used}
use Rattle.node_chains.specs.declared.node.Item.{Item}
use Rattle.node_chains.specs.declared.node.Node.{Node}
use Rattle.node_chains.proofs.Frames.{depth}
use Rattle.node_table.proofs.Removes.{not_under}

-- where the rows above o stay, the way to o stands
pub way_stands : {f : ℕ} {nodes : List Node} {t s : List ℕ} → Placing f nodes t s → (R2 : ℕ → List ℕ) (o : ℕ)
    → ((x : ℕ) → x < f → lev_at nodes x < lev_at nodes o → R2 x ≡ row t s x)
    → (ps : List ℕ) (i : ℕ) → i < f → Steps (row t s) ps i → reach (row t s) ps i ≡ o → Steps R2 ps i × (reach R2 ps i ≡ o)
way_stands M R2 o h [] i l st r = (tt, r)
way_stands {f} {nodes} {t} {s} M R2 o h (p ∷ ps) i l st r =
    let a = depth (row t s) (up_at nodes) (lev_at nodes) M.shape (p ∷ ps) i st in
    let b = ap (lev_at nodes) r in
    let e : R2 i ≡ row t s i = h i l (omega arith) in
    let k : get_or (row t s i) p 0 ≡ get_or (R2 i) p 0 = ap (λ xs. get_or xs p 0) (sym e) in
    let ih = way_stands M R2 o h ps (get_or (row t s i) p 0) (M.high i p st.0) st.1 r in
    ((omega (arith, ap length e, st.0), subst (λ x. Steps R2 ps x) k ih.0), ap (reach R2 ps) (sym k) ∙ ih.1)

-- a child put into o or taken out of it leaves the way to o
module _ {f bytes : ℕ} {nodes : List Node} {t s : List ℕ} (Us : Used f nodes t s bytes) where
  pub stands_more : {k o at n : ℕ} {item : Item} {nodes2 : List Node} {t2 s2 : List ℕ} → Moved f k o at n item nodes nodes2 t s t2 s2 → Stands (row t s) (row t2 s2) o
  stands_more {o = o} {t2 = t2} {s2 = s2} V ps st r =
      way_stands Us.placing (row t2 s2) o (λ x l d. V.others x (λ e. let z = ap (lev_at nodes) e in omega arith) (λ e. omega arith)) ps 0 Us.some st r

  pub stands_less : {o k : ℕ} {nodes1 : List Node} {t1 s1 : List ℕ} → k < length (row t s o) → Unlinked f o k nodes nodes1 t s t1 s1 → Stands (row t s) (row t1 s1) o
  stands_less {o} {k} {t1 = t1} {s1 = s1} m N ps st r =
      way_stands Us.placing (row t1 s1) o
      (λ x l d. N.rows_at x (λ e. omega arith) (λ e. let z = ap (lev_at nodes) e in omega arith) (not_under Us.placing (get_or (row t s o) k 0) x (omega (arith, Us.placing.shape.levels o k m)))) ps 0 Us.some st r
