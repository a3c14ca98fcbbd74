-- Codes of types, kinds and flags: each is read as what it was written for.
use Rattle.std.proofs.Common.{◌≡◌, ℕ, ◌<◌, Bool, cond, eqb, ◌++◌, Some, Option, refl, ap, ◌∙◌, subst, arith}
use Rattle.types.specs.declared.types.ObjType.{ObjType}
use Rattle.types.specs.declared.types.ObjType.TheVariants.{Map, Table, List as Sequence, Text}
use Rattle.record_codec.specs.declared.entry_type.EntryType.{EntryType}
use Rattle.record_codec.specs.declared.entry_type.EntryType.TheVariants as ty
use Rattle.record_codec.specs.Codec.{next, decide, Bytes, get32, put32}
use Rattle.record_codec.specs.Layout.{type_at, kind_at, flag_at, type_code, kind_code, flag_code, get_kind, get_flag, put_flag}
use Rattle.record_codec.proofs.Laws.{Law, step, choice, val_is, rest_is, law32}

coded : {X : Type 0} (code : X → ℕ) (n k : ℕ) (x : X) (rest : Option X) (t : X) → k ≡ code x → (rest ≡ Some t → n ≡ code t) → cond (eqb n k) (Some x) rest ≡ Some t → n ≡ code t
coded code n k x rest t h f e = grind (arith, f)

pub type_back : (t : EntryType) → type_at (type_code t) ≡ Some t
type_back t = grind arith

pub type_forth : (n : ℕ) (t : EntryType) → type_at n ≡ Some t → n ≡ type_code t
type_forth n t e =
    coded type_code n 0 ty.Null _ t refl (coded type_code n 1 ty.False _ t refl (coded type_code n 2 ty.True _ t refl
    (coded type_code n 3 ty.Int _ t refl (coded type_code n 4 ty.Uint _ t refl (coded type_code n 5 ty.Timestamp _ t refl
    (coded type_code n 6 ty.Counter _ t refl (coded type_code n 7 ty.Str _ t refl (coded type_code n 8 ty.Bytes _ t refl
    (coded type_code n 9 (ty.Object Map) _ t refl (coded type_code n 10 (ty.Object Table) _ t refl (coded type_code n 11 (ty.Object Sequence) _ t refl
    (coded type_code n 12 (ty.Object Text) _ t refl (λ e. absurd cc))))))))))))) e

pub type_small : (t : EntryType) → type_code t < 4294967296
type_small t = grind arith

pub kind_back : (k : ObjType) → kind_at (kind_code k) ≡ Some k
kind_back k = grind arith

pub kind_forth : (n : ℕ) (k : ObjType) → kind_at n ≡ Some k → n ≡ kind_code k
kind_forth n k e = grind (arith, e)

kind_small : (k : ObjType) → kind_code k < 4294967296
kind_small k = grind arith

flag_back : (b : Bool) → flag_at (flag_code b) ≡ Some b
flag_back b = grind arith

flag_forth : (n : ℕ) (b : Bool) → flag_at n ≡ Some b → n ≡ flag_code b
flag_forth n b e = grind (arith, e)

flag_small : (b : Bool) → flag_code b < 4294967296
flag_small b = grind arith

-- A code of four bytes, and what it stands for: kinds and flags.
module _ {X : Type 0} (read : ℕ → Option X) (code : X → ℕ) (small : (x : X) → code x < 4294967296) (back : (x : X) → read (code x) ≡ Some x) (forth : (n : ℕ) (x : X) → read n ≡ Some x → n ≡ code x) where
  pub law_code : Law (λ bs. next (get32 bs) (λ n r. decide (read n) (λ x. Some (x, r)))) (λ x. put32 (code x)) (λ x. Unit {0})
  law_code = record {
    back = λ x r g. ap (λ t. next t (λ n r. decide (read n) (λ y. Some (y, r)))) (law32.back (code x) r (small x)) ∙ ap (λ t. decide t (λ y. Some (y, r))) (back x);
    forth = λ bs x r B e.
        let s1 = step (get32 bs) (λ n r. decide (read n) (λ y. Some (y, r))) x r e in
        let s2 = choice (read s1.val) (λ y. Some (y, s1.mid)) x r s1.second in
        let p = law32.forth bs s1.val s1.mid B s1.first in
        let v : s2.val ≡ x = val_is _ x s1.mid r s2.second in
        let w : s1.mid ≡ r = rest_is _ x s1.mid r s2.second in
        record {
          whole = p.whole ∙ (ap (λ k. put32 k ++ s1.mid) (forth s1.val s2.val s2.first ∙ ap code v) ∙ ap (λ t. put32 (code x) ++ t) w);
          good = tt;
          rest = subst Bytes w p.rest;
        };
  }

pub law_kind : Law get_kind (λ k. put32 (kind_code k)) (λ k. Unit {0})
law_kind = law_code kind_at kind_code kind_small kind_back kind_forth

pub law_flag : Law get_flag put_flag (λ b. Unit {0})
law_flag = law_code flag_at flag_code flag_small flag_back flag_forth
