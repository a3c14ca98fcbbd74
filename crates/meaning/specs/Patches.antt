-- Patches: where in a value, and what is done there.
use Rattle.std.specs.Prelude.{ℕ, List, [], ◌∷◌, ℤ}
use Rattle.types.specs.declared.types.ObjId.{ObjId}
use Rattle.meaning.specs.Entries.{Key, Entry}

-- Where in an object: a map's or table's key, a list's or text's position.
pub data Prop : Type 0 where
  key : Key → Prop
  pos : ℕ → Prop

-- A step of a path, with the identity of the object that it leaves.
pub record Step : Type 0 where
  pub leaves : ObjId
  pub prop : Prop

-- The steps without identities.
abbrev pub props : List Step → List Prop
props [] = []
props (s ∷ ss) = s.prop ∷ props ss

-- What is done in one object; texts count in units U.
pub data Action (U : Type 0) : Type 0 where
  put_map : Key → Entry → Action U
  put_seq : ℕ → Entry → Action U
  insert : ℕ → List Entry → Action U
  splice_text : ℕ → List U → Action U
  increment : Prop → ℤ → Action U
  conflict : Prop → Action U
  delete_map : Key → Action U
  delete_seq : ℕ → ℕ → Action U

-- A patch: the object it is for, the way there from the root, and what is done.
pub record Patch (U : Type 0) : Type 0 where
  pub obj : ObjId
  pub path : List Step
  pub action : Action U
