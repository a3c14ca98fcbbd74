-- What is lent of an entry, as the meaning has it.
use Rattle.std.specs.Prelude.{ℕ, List, Some, None, Option as Answer}
use Rattle.std.proofs.Math.Option.{Option, none, some}
use Rattle.std.specs.Borrow.{Bor}
use Rattle.types.specs.declared.value.ScalarOf.{ScalarOf}
use Rattle.types.specs.declared.value.ScalarOf.TheVariants.{Null, Boolean, Int, Uint, Timestamp, Counter, Str, Bytes}
use Rattle.types.specs.declared.value.ValueOf.{ValueOf}
use Rattle.types.specs.declared.value.ValueOf.TheVariants.{Object, Scalar as Plain}
use Rattle.meaning.specs.Entries.{Key, Scalar, null, boolean, int, uint, timestamp, counter, str, bytes, Content, scalar_of, object_of, Entry}
use Rattle.document.specs.declared.view.Entry.{Entry as Lent}

abbrev pub scalar_seen : ScalarOf (Bor (List ℕ)) → Scalar
scalar_seen Null = null
scalar_seen (Boolean b) = boolean b
scalar_seen (Int n) = int n
scalar_seen (Uint n) = uint n
scalar_seen (Timestamp n) = timestamp n
scalar_seen (Counter n) = counter n
scalar_seen (Str s) = str s.now
scalar_seen (Bytes s) = bytes s.now

abbrev pub content_seen : ValueOf (Bor (List ℕ)) → Content
content_seen (Object k) = object_of k
content_seen (Plain s) = scalar_of (scalar_seen s)

-- An entry with its key.
abbrev pub entry_seen : Lent → Key × Entry
entry_seen e = (e.key.now, record { content = content_seen e.value; ident = e.id; flag = e.conflict })

abbrev pub an_entry_seen : Answer Lent → Option (Key × Entry)
an_entry_seen None = none
an_entry_seen (Some e) = some (entry_seen e)

abbrev pub bytes_seen : Answer (Bor (List ℕ)) → Option (List ℕ)
bytes_seen None = none
bytes_seen (Some s) = some s.now
