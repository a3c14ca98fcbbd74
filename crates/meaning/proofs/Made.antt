-- Making's calls have been judged, and what the builder makes of them is a run of it.
use Rattle.std.proofs.Common.{◌≡◌, ℕ, zero, suc, ◌+◌, ◌≤◌, Bool, true, false, cond, not, ◌&&◌, ◌||◌, eqb, ltb, leb, List, [], ◌∷◌, ◌++◌, reverse, length, Ok, Err, sym, refl, ap, ◌∙◌, subst, inl, inr, arith}
use mathlib.Core.Option.{Option, none, some}
use Rattle.types.specs.Identities.{is_root}
use Rattle.types.specs.Limits.{limits}
use Rattle.types.specs.declared.types.ObjId.{ObjId}
use Rattle.types.specs.declared.error.Refusal.{Refusal}
use Rattle.types.specs.declared.error.Refusal.TheVariants.{ZeroCounter, PositionTooHigh, DeletionLength, TooLong, InvalidEncoding, PathTooDeep, Full}
use Rattle.meaning.specs.Results.{first_of}
use Rattle.meaning.specs.Lists.{In, Every}
use Rattle.meaning.specs.Entries.{ranks, Key, content_bytes, Entry}
use Rattle.meaning.specs.Patches.{key, Patch}
use Rattle.meaning.specs.Rows.{map_of, list_of, text_of}
use Rattle.meaning.specs.Values.{Counts, within_value}
use Rattle.meaning.specs.Documents.{DocRow, Obj, Doc, find, GoodKey, GoodEntry, GoodText, row_keys, row_entries, keys_of, of_pairs, row_counts, list_counts, doc_counts, well_spelt, HasParent, Lawful}
use Rattle.meaning.specs.Calls.{Call, put_call, insert_call, splice_call, zero_id, zero_call, zero_counter, position_too_high, deletion_alone, too_long, bad_encoding, long_key, long_entry, bad_prop}
use Rattle.meaning.specs.Builder.{own as own_first}
use Rattle.meaning.specs.Builder.{Setting, State, accept, run, own_patches, joined, joining, joined_length, too_deep, overfull, is_some, over_doc, refusal_of, builder_over}
use Rattle.meaning.specs.Log.{Event, Log}
use Rattle.meaning.specs.Making.{on_rank, arranged, inserts, puts, written, wrote, naming, queue_all, turns, making, heard, unless_refused, building}
use Rattle.meaning.specs.Carrying.{Makings}
use Rattle.meaning.proofs.Tests.{eqb_yes, eqb_not, ltb_no, le_of, both, err_ok}
use Rattle.meaning.proofs.Members.{every_append}
use Rattle.meaning.proofs.Found.{find_every, find_in}
use Rattle.meaning.proofs.Queue.{arranged_every}
use Rattle.meaning.proofs.Logged.{Good}
use Rattle.meaning.proofs.Sweep.{owns}

-- a row counts for no more than its document
row_in : (d : Doc) (o : Obj) → In o d → ((row_counts o.row).entry_count ≤ (doc_counts d).entry_count) × ((row_counts o.row).unit_count ≤ (doc_counts d).unit_count)
row_in [] o m = absurd m
row_in (p ∷ os) o (inl e) =
    subst (λ (q : Obj). ((row_counts q.row).entry_count ≤ (doc_counts (p ∷ os)).entry_count) × ((row_counts q.row).unit_count ≤ (doc_counts (p ∷ os)).unit_count)) (sym e) (omega arith, omega arith)
row_in (p ∷ os) o (inr m) = let (a, b) = row_in os o m in (omega arith, omega arith)

list_length : (l : List Entry) → (list_counts l).entry_count ≡ length l
list_length [] = refl
list_length (e ∷ l) = let k = list_length l in omega arith

pub within_inv : (c : Counts) → within_value c ≡ true → (c.entry_count ≤ limits.value_entries) × (c.unit_count ≤ limits.value_units) × (c.byte_count ≤ limits.value_bytes)
within_inv c e =
    let p = both (leb c.entry_count limits.value_entries) _ e in
    let q = both (leb c.unit_count limits.value_units) (leb c.byte_count limits.value_bytes) p.1 in
    (le_of c.entry_count limits.value_entries p.0, le_of c.unit_count limits.value_units q.0, le_of c.byte_count limits.value_bytes q.1)

or_no : (a b : Bool) → a ≡ false → b ≡ false → (a || b) ≡ false
or_no a b p q = rw (p, q)

not_yes : (a : Bool) → a ≡ true → not a ≡ false
not_yes a e = rw e

module _ (db : Doc) (LB : Lawful db) where
  -- an object of the document may be written to
  written_to : (o : Obj) → HasParent db o → zero_id o.ident.0 && not (is_root o.ident) ≡ false
  written_to o p = go (zero_id o.ident.0) refl
    where
      at_root : (t : Bool) → eqb o.ident.0.actor 0 ≡ t → eqb o.ident.0.counter 0 ≡ true → not (eqb o.ident.0.counter 0 && eqb o.ident.0.actor 0) ≡ false
      at_root true a c = rw (a, c)
      at_root false a c =
          let z = eqb_yes o.ident.0.counter 0 c in
          let n = eqb_not o.ident.0.actor 0 a in
          let h = (p (omega arith)).0 in
          absurd (omega arith)

      go : (t : Bool) → zero_id o.ident.0 ≡ t → zero_id o.ident.0 && not (is_root o.ident) ≡ false
      go false e = ap (λ t. t && not (is_root o.ident)) e
      go true e = ap (λ t. t && not (is_root o.ident)) e ∙ at_root (eqb o.ident.0.actor 0) refl e

  module _ (o : ObjId) (may : zero_id o.0 && not (is_root o) ≡ false) where
    counted : (c : Call) → zero_call c ≡ false → zero_counter o c ≡ false
    counted c z = or_no (zero_id o.0 && not (is_root o)) (zero_call c) may z

    entry_counted : (e : Entry) → GoodEntry e → zero_id e.ident ≡ false
    entry_counted e g = go (zero_id e.ident) refl
      where
        go : (t : Bool) → zero_id e.ident ≡ t → zero_id e.ident ≡ false
        go true h = let k = eqb_yes e.ident.counter 0 h in let p = g.0 in absurd (omega arith)
        go false h = h

    entry_short : (e : Entry) → GoodEntry e → long_entry e ≡ false
    entry_short e g = ltb_no limits.scalar_bytes (content_bytes e.content) g.1

    key_short : (k : Key) → GoodKey k → long_key k ≡ false
    key_short k g = ltb_no limits.key_bytes (length k) g.0

    puts_good : (m : List (Key × Entry)) → Every GoodKey (keys_of m) → Every GoodEntry (of_pairs m) → Every Good (puts o m)
    puts_good [] k e = tt
    puts_good (x ∷ xs) k e = (
      record {
        counted = counted (put_call (key x.0) x.1) (entry_counted x.1 e.0);
        near = refl;
        short = or_no (long_key x.0) (long_entry x.1) (key_short x.0 k.0) (entry_short x.1 e.0);
        spelt = or_no (bad_prop (key x.0)) (not (well_spelt x.1.content)) (not_yes _ k.0.1) (not_yes _ e.0.2);
      },
      puts_good xs k.1 e.1,
    )

    inserts_good : (i : ℕ) (l : List Entry) → i + length l ≤ limits.value_entries → Every GoodEntry l → Every Good (inserts o i l)
    inserts_good i [] h e = tt
    inserts_good i (x ∷ l) h e = (
      record {
        counted = counted (insert_call i x) (entry_counted x e.0);
        near = ltb_no limits.last_position i (omega arith);
        short = entry_short x e.0;
        spelt = not_yes _ e.0.2;
      },
      inserts_good (suc i) l (omega arith) e.1,
    )

    written_good : (w : DocRow) → (row_counts w).entry_count ≤ limits.value_entries → (row_counts w).unit_count ≤ limits.value_units
        → Every GoodKey (row_keys w) → Every GoodEntry (row_entries w) → GoodText w → Every Good (written o w)
    written_good (map_of m) a b k e t = puts_good m k e
    written_good (list_of l) a b k e t = inserts_good 0 l (let n = list_length l in omega arith) e
    written_good (text_of s) a b k e t = (
      record {
        counted = counted (splice_call 0 s) refl;
        near = refl;
        short = ltb_no limits.splice_bytes (length s) (omega arith);
        spelt = not_yes _ t;
      },
      tt,
    )

  wrote_good : (x : ℕ) (f : Option Obj) → find db x ≡ f → Every Good (wrote f)
  wrote_good x none e = tt
  wrote_good x (some o) e =
      let (a, b) = row_in db o (find_in db x o e) in
      let (c, d, _) = within_inv (doc_counts db) LB.bounded in
      written_good o.ident (written_to o (find_every (HasParent db) db x o LB.children e)) o.row (omega arith) (omega arith)
      (find_every (λ (q : Obj). Every GoodKey (row_keys q.row)) db x o LB.good_keys e)
      (find_every (λ (q : Obj). Every GoodEntry (row_entries q.row)) db x o LB.good_entries e)
      (find_every (λ (q : Obj). GoodText q.row) db x o LB.good_texts e)

  turns_good : (n : ℕ) (q : List ℕ) (es : List Event) → Every Good es → Every Good (turns n db q es)
  turns_good zero q es h = tt
  turns_good (suc n) [] [] h = tt
  turns_good (suc n) (x ∷ q) [] h = every_append Good (wrote (find db x)) _ (wrote_good x (find db x) refl) (turns_good n (queue_all (naming (find db x)) q) [] h)
  turns_good (suc n) [] (e ∷ es) h = (h.0, turns_good n [] es h.1)
  turns_good (suc n) (x ∷ q) (e ∷ es) h =
      go (ltb x (on_rank e)) (eqb x (on_rank e))
      (every_append Good (wrote (find db x)) _ (wrote_good x (find db x) refl) (turns_good n (queue_all (naming (find db x)) q) (e ∷ es) h)) (turns_good n (x ∷ q) es h.1)
    where
      go : (a b : Bool) → Every Good (wrote (find db x) ++ turns n db (queue_all (naming (find db x)) q) (e ∷ es)) → Every Good (turns n db (x ∷ q) es)
          → Every Good (cond a (wrote (find db x) ++ turns n db (queue_all (naming (find db x)) q) (e ∷ es)) (cond b (turns n db (x ∷ q) es) (e ∷ turns n db (x ∷ q) es)))
      go true b u v = u
      go false true u v = v
      go false false u v = (h.0, v)

  pub making_good : (l : Log) → Every Good l.events → Every Good (making l db)
  making_good l h = turns_good (suc (length l.events + (length l.exposed + length db))) (queue_all (ranks l.exposed) []) (arranged l.events) (arranged_every Good l.events h)

module _ {U : Type 0} (units : List ℕ → List U) (d : Doc) where
  abbrev S : Setting U
  S = builder_over units d

  -- a judged call is refused by 3, 6 or 7 only
  among : (a b c : Bool) (r : Refusal)
      → first_of ((false, ZeroCounter) ∷ (false, PositionTooHigh) ∷ (a, DeletionLength) ∷ (false, TooLong) ∷ (false, InvalidEncoding) ∷ (b, PathTooDeep) ∷ (c, Full) ∷ []) ≡ some r → Makings r
  among true b c r e = let k : r ≡ DeletionLength = cc in inl k
  among false true c r e = let k : r ≡ PathTooDeep = cc in inr (inl k)
  among false false true r e = let k : r ≡ Full = cc in inr (inr k)
  among false false false r e = let z : ◌≡◌ {A = ℕ} 0 1 = cc in absurd (omega arith)

  refused_by : (held : List (Patch U)) (e : Event) → Good e → (r : Refusal) → refusal_of units d held e.on e.does ≡ some r → Makings r
  refused_by held e g r h =
      let T : Setting U = over_doc units d (λ _ _ _. false) in
      let a = deletion_alone e.does || joined_length (joining T e.on e.does held) in
      let b = too_deep T e.on (joining T e.on e.does held) in
      let c = overfull (accept T e.on e.does held) in
      let tests : Bool → Bool → Bool → Bool → Option Refusal =
      λ s t u v. first_of ((s, ZeroCounter) ∷ (t, PositionTooHigh) ∷ (a, DeletionLength) ∷ (u, TooLong) ∷ (v, InvalidEncoding) ∷ (b, PathTooDeep) ∷ (c, Full) ∷ []) in
      let same : tests (zero_counter e.on e.does) (position_too_high e.does) (too_long e.does) (bad_encoding e.does) ≡ tests false false false false =
      λ i. tests (g.counted i) (g.near i) (g.short i) (g.spelt i) in
      among a b c r (sym same ∙ h)

  pub building_refused : (es : List Event) (held : List (Patch U)) → Every Good es → (r : Refusal) → building units d held es ≡ Err r → Makings r
  building_refused [] held g r h = let z : ◌≡◌ {A = ℕ} 0 1 = cc in absurd (omega arith)
  building_refused (e ∷ es) held g r h = go (refusal_of units d held e.on e.does) refl (building_refused es) h
    where
      go : (t : Option Refusal) → refusal_of units d held e.on e.does ≡ t
          → ((held : List (Patch U)) → Every Good es → (r : Refusal) → building units d held es ≡ Err r → Makings r)
          → unless_refused t (building units d (accept S e.on e.does held) es) ≡ Err r → Makings r
      go none k ih j = ih (accept S e.on e.does held) g.1 r j
      go (some x) k ih j = let m : x ≡ r = cc in subst Makings m (refused_by held e g.0 x k)

  -- a making that succeeds is a run in which nothing is refused
  pub record Ran (es : List Event) (held ps : List (Patch U)) : Type 0 where
    pub ends : joined (run S (heard es) (record { taken = []; held = held })) ≡ ps
    pub own : own_patches S (heard es) (record { taken = []; held = held }) ≡ owns S es

  ran_next : (e : Event) (es : List Event) (held ps : List (Patch U)) → refusal_of units d held e.on e.does ≡ none → Ran es (accept S e.on e.does held) ps → Ran (e ∷ es) held ps
  ran_next e es held ps h r =
      let kept : Bool → State U = λ t. record { taken = []; held = cond t held (accept S e.on e.does held) } in
      let go_on : is_some (refusal_of units d held e.on e.does) ≡ false = ap is_some h in
      let first : Bool → List (Patch U) = λ t.
      cond t (own_patches S (heard es) (record { taken = []; held = held })) (own_first S e.on e.does (own_patches S (heard es) (kept t))) in
      record {
        ends = ap (λ t. joined (run S (heard es) (kept t))) go_on ∙ r.ends;
        own = ap first go_on ∙ ap (own_first S e.on e.does) r.own;
      }

  pub building_ran : (es : List Event) (held ps : List (Patch U)) → building units d held es ≡ Ok ps → Ran es held ps
  building_ran [] held ps h = let k : reverse held ≡ ps = cc in record { ends = k; own = refl }
  building_ran (e ∷ es) held ps h = go (refusal_of units d held e.on e.does) refl (building_ran es) h
    where
      go : (t : Option Refusal) → refusal_of units d held e.on e.does ≡ t
          → ((held ps : List (Patch U)) → building units d held es ≡ Ok ps → Ran es held ps)
          → unless_refused t (building units d (accept S e.on e.does held) es) ≡ Ok ps → Ran (e ∷ es) held ps
      go none k ih j = ran_next e es held ps k (ih (accept S e.on e.does held) ps j)
      go (some x) k ih j = absurd (err_ok x ps j)
