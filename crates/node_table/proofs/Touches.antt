-- One entry changed where it lies.
use Rattle.std.proofs.Common.{◌≡◌, ℕ, zero, suc, ◌+◌, ◌-◌, ◌<◌, ◌≤◌, true, false, ◌⊎◌, List, ℤ, [], length, get_or, sym, refl, ap, ◌∙◌, inl, ⊎_elim, arith, rules, w64, SFits, to_z, of_z}
use Rattle.std.proofs.lemmas.Int.{to_z-of_z}
use Rattle.std.proofs.lemmas.List.{places}
use Rattle.std.proofs.lemmas.Bool.{cases_eq}
use Rattle.sequence_tree.specs.Lists.{spliced}
use Rattle.packed_rows.specs.Rows.{row, RowSpliced}
use Rattle.node_table.specs.Kinds.{branches, is_text, raised_content}
use Rattle.node_chains.specs.Tree.{node, none, tree, relabel, Under}
use Rattle.node_chains.specs.Chains.{item_at, up_at, lev_at}
use Rattle.node_table.specs.Held.{Datum, datum, held, Changed, Touched, item_bytes, Used, Dry, respelled, Spelled, flagged, raised}
use Rattle.node_chains.specs.declared.node.Content.{Content}
use Rattle.node_chains.specs.declared.node.Item.{Item}
use Rattle.node_chains.specs.declared.node.Node.{Node}
use Rattle.node_chains.proofs.Frames.{map_same, along, stays, Only}
use Rattle.node_table.proofs.Sums.{below_change}
use Rattle.node_table.proofs.Counters.{branches_raised, text_raised}
use Rattle.node_chains.specs.Changes.{with_item}
use Rattle.node_chains.proofs.Items.{item_c, item_x, links, placing_item}
use Rattle.node_table.proofs.Inserts.{other_test, used_high, used_up, used_lev}
use Rattle.node_table.proofs.Removes.{used_deep}

-- the tree where the data of c alone differs
module _ {D : Type 0} {f bytes : ℕ} {nodes : List Node} {t s : List ℕ} (Us : Used f nodes t s bytes) (c : ℕ) (h : D → D) (g g2 : ℕ → D)
    (gc : g2 c ≡ h (g c)) (gx : (x : ℕ) → (x ≡ c → ⊥) → g2 x ≡ g x) where
  only : Only (λ x. (x ≡ c) ⊎ ⊥) g g2 (row t s) (row t s)
  only = record { data_same = λ x ne. gx x (λ e. ne (inl e)); kids_same = λ x ne. refl }

  here : (e : ℕ) → tree g2 (row t s) e c ≡ relabel h (tree g (row t s) e c)
  here zero = ap (λ x. node x none) gc
  here (suc e) =
      let m = map_same (tree g2 (row t s) e) (tree g (row t s) e) 0 (row t s c) (λ p l. stays (row t s) (up_at nodes) (lev_at nodes) Us.placing.shape (λ x. ⊥) c g g2 (row t s) only e p (λ ps st z. z) l) in
      cc

  pub relabels : Changed (row t s) c (relabel h) (tree g (row t s) 17 0) (tree g2 (row t s) 17 0)
  relabels ps st r =
      let dp = used_deep Us ps 0 Us.some (omega (arith, Us.base.1)) st in
      let lv = used_lev Us ps st r in
      let dc = ap (lev_at nodes) r in
      along (row t s) (up_at nodes) (lev_at nodes) Us.placing.shape (λ x. ⊥) c g g2 (row t s) only (relabel h) (17 - length ps) (here (17 - length ps)) ps 17 0 (omega arith) st r (λ qs u z. z)

-- the node at c rewritten with another item
module _ (c : ℕ) (nodes : List Node) (it : Item) (l : c < length nodes) where
  pub used_touched : {f bytes bytes2 : ℕ} {t s : List ℕ} → Used f nodes t s bytes → 0 < c → Under (row t s) 0 c → (branches it.content ≡ false → row t s c ≡ []) → (it.key_len ≤ 64) × (it.string_len ≤ 256)
      → bytes2 + item_bytes (item_at nodes c) ≡ bytes + item_bytes it → Used f (with_item nodes c it) t s bytes2
  used_touched {f} {bytes} {bytes2} {t} {s} Us lo uc br sh e = record {
    placing = placing_item c nodes it l Us.placing;
    some = Us.some;
    root = item_x c nodes it l 0 (λ z. omega arith) ∙ Us.root;
    base = ((links c nodes it l 0).0 ∙ Us.base.0, (links c nodes it l 0).1 ∙ Us.base.1);
    last = item_x c nodes it l f (λ z. omega (arith, hi)) ∙ Us.last;
    leaf = λ i h. ⊎_elim (λ (z : i ≡ c). ap (row t s) z ∙ br (ap (λ (y : Item). branches y.content) (sym (ap (item_at (with_item nodes c it)) z ∙ item_c c nodes it l)) ∙ h))
        (λ ne. Us.leaf i (ap (λ (y : Item). branches y.content) (sym (item_x c nodes it l i ne)) ∙ h)) (cases_eq i c);
    free = λ p h. item_x c nodes it l (get_or (row t s f) p 0) (λ z. used_up Us uc (ap (up_at nodes) (sym z) ∙ Us.placing.shape.ups f p h)) ∙ Us.free p h;
    short = λ i. ⊎_elim
        (λ (z : i ≡ c). let y = ap (item_at (with_item nodes c it)) z ∙ item_c c nodes it l in (omega (arith, ap (λ (y : Item). y.key_len) y, sh.0), omega (arith, ap (λ (y : Item). y.string_len) y, sh.1)))
        (λ ne. let y = item_x c nodes it l i ne in (omega (arith, ap (λ (y : Item). y.key_len) y, (Us.short i).0), omega (arith, ap (λ (y : Item). y.string_len) y, (Us.short i).1))) (cases_eq i c);
    parted = Us.parted;
    counted =
        let a = below_change f c (λ i. item_bytes (item_at nodes i)) (λ i. item_bytes (item_at (with_item nodes c it) i)) hi (λ x ne. ap item_bytes (item_x c nodes it l x ne)) in
        let b = ap item_bytes (item_c c nodes it l) in
        omega (arith, Us.counted);
  }
    where
      hi : c < f
      hi = used_high Us uc

  -- where only the content and the flag differ, and the content is of the same sort
  pub touches : {U : Type 0} (h : Datum U → Datum U) → it.key_len ≡ (item_at nodes c).key_len → it.string_len ≡ (item_at nodes c).string_len
      → branches it.content ≡ branches (item_at nodes c).content → is_text it.content ≡ is_text (item_at nodes c).content
      → ((keys strings : List ℕ) (u : ℕ → List U) → record { key = (datum nodes keys strings u c).key; content = it.content; conflict = it.conflict; string = (datum nodes keys strings u c).string; units = u c } ≡ h (datum nodes keys strings u c))
      → Touched h c nodes (with_item nodes c it)
  touches {U} h ek es eb et eh = record {
    lawful = λ f bytes t s lo uc Us. used_touched Us lo uc (λ z. Us.leaf c (sym eb ∙ z)) (omega (arith, ek, (Us.short c).0), omega (arith, es, (Us.short c).1)) (omega (arith, ek, es));
    dry = λ u D i z. ⊎_elim (λ (e : i ≡ c). ap u e ∙ D c (sym et ∙ ap (λ (y : Item). is_text y.content) (sym (ap (item_at (with_item nodes c it)) e ∙ item_c c nodes it l)) ∙ z)) (λ ne. D i (ap (λ (y : Item). is_text y.content) (sym (item_x c nodes it l i ne)) ∙ z)) (cases_eq i c);
    changed = λ f bytes t s keys strings u Us. relabels Us c h (datum nodes keys strings u) (datum (with_item nodes c it) keys strings u)
        (let i = item_c c nodes it l in let e = eh keys strings u in cc)
        (λ x ne. let i = item_x c nodes it l x ne in cc);
  }

-- an entry with its flag set
module _ {U : Type 0} (c : ℕ) (nodes : List Node) (it : Item) (l : c < length nodes) (e : it ≡ item_at nodes c) where
  pub flags : Touched {U = U} flagged c nodes (with_item nodes c (record { content = it.content; conflict = true; key_len = it.key_len; string_len = it.string_len }))
  flags = rw e (touches c nodes (record { content = (item_at nodes c).content; conflict = true; key_len = (item_at nodes c).key_len; string_len = (item_at nodes c).string_len }) l flagged refl refl refl refl (λ keys strings u. refl))

-- a counter with a number added
module _ {U : Type 0} (c : ℕ) (nodes : List Node) (it : Item) (l : c < length nodes) (e : it ≡ item_at nodes c) (n : ℤ) (content : Content) (is : content ≡ raised_content n it.content) where
  pub raised_here : Touched {U = U} (raised n) c nodes (with_item nodes c (record { content = content; conflict = it.conflict; key_len = it.key_len; string_len = it.string_len }))
  raised_here = rw (is, e) (touches c nodes (record { content = raised_content n (item_at nodes c).content; conflict = (item_at nodes c).conflict; key_len = (item_at nodes c).key_len; string_len = (item_at nodes c).string_len }) l (raised n)
      refl refl (branches_raised n (item_at nodes c).content) (text_raised n (item_at nodes c).content) (λ keys strings u. refl))

-- the same where the number was passed on
module _ {U : Type 0} (c : ℕ) (nodes : List Node) (it : Item) (l : c < length nodes) (e : it ≡ item_at nodes c) (n : ℤ) (h : SFits w64 n) (content : Content) (is : content ≡ raised_content (to_z w64 (of_z w64 n)) it.content) where
  pub raised_passed : Touched {U = U} (raised n) c nodes (with_item nodes c (record { content = content; conflict = it.conflict; key_len = it.key_len; string_len = it.string_len }))
  raised_passed = raised_here c nodes it l e n content (is ∙ ap (λ z. raised_content z it.content) (to_z-of_z w64 n h))

-- the length of a list with a part replaced
spliced_length : {X : Type 0} (xs ys : List X) (at k : ℕ) → at + k ≤ length xs → length (spliced xs at k ys) + k ≡ length xs + length ys
spliced_length xs ys at k l = search (rules, places)

-- the units of a text spliced
module _ {U : Type 0} {c at k : ℕ} {xs : List U} {ut ut2 : List ℕ} {us us2 : List U} (S : RowSpliced ut us ut2 us2 c at k xs) where
  pub spelled_spliced : at + k ≤ length (row ut us c) → (f : ℕ) → c ≤ f → Spelled f ut us → Spelled f ut2 us2
  spelled_spliced l f m h =
      let a = below_change (suc f) c (λ i. length (row ut us i)) (λ i. length (row ut2 us2 i)) (omega arith) (λ x ne. ap length (S.others x ne)) in
      let b = ap length S.here in
      let d = spliced_length (row ut us c) xs at k l in
      omega (arith, S.count)

  pub dry_spliced : (nodes : List Node) → is_text (item_at nodes c).content ≡ true → Dry nodes (row ut us) → Dry nodes (row ut2 us2)
  dry_spliced nodes tx D i z = S.others i (λ e. other_test (is_text (item_at nodes c).content) tx (ap (λ x. is_text (item_at nodes x).content) (sym e) ∙ z)) ∙ D i z

  pub changed_spliced : (f bytes : ℕ) (nodes : List Node) (t s keys strings : List ℕ) → Used f nodes t s bytes → Changed (row t s) c (relabel (respelled at k xs)) (held nodes t s keys strings (row ut us)) (held nodes t s keys strings (row ut2 us2))
  changed_spliced f bytes nodes t s keys strings Us = relabels Us c (respelled at k xs) (datum nodes keys strings (row ut us)) (datum nodes keys strings (row ut2 us2))
      (let e = S.here in cc) (λ x ne. let e = S.others x ne in cc)
