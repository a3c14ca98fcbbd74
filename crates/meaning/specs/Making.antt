-- Making: the calls that a log and a document give, and the patches that the builder makes of them.
use Rattle.std.specs.Prelude.{ℕ, zero, suc, ◌+◌, cond, List, [], ◌∷◌, ◌++◌, reverse, length, Ok, Err, ◌==◌, nat_le, nat_lt}
use Rattle.std.proofs.Math.Option.{Option, none, some}
use Rattle.types.specs.declared.types.ObjId.{ObjId}
use Rattle.types.specs.declared.error.Refusal.{Refusal}
use Rattle.meaning.specs.Results.{Answer}
use Rattle.meaning.specs.Lists.{memb}
use Rattle.meaning.specs.Entries.{rank, ranks, Key, Entry}
use Rattle.meaning.specs.Patches.{key, Patch}
use Rattle.meaning.specs.Rows.{map_of, list_of, text_of, refs, ids}
use Rattle.meaning.specs.Documents.{DocRow, Obj, name, Doc, find, items}
use Rattle.meaning.specs.Calls.{put_call, insert_call, splice_call}
use Rattle.meaning.specs.Builder.{Input, call, accept, refusal_of, builder_over}
use Rattle.meaning.specs.Log.{Event, Log, enter}

-- The rank of the object that an event is for.
abbrev pub on_rank : Event → ℕ
on_rank e = rank e.on

-- The events of one object, in order of arrival.
abbrev pub events_of : List Event → ℕ → List Event
events_of [] i = []
events_of (e ∷ es) i = cond (on_rank e == i) (e ∷ events_of es i) (events_of es i)

-- All events by rising object, each object's in order of arrival.
abbrev pub arrange : Event → List Event → List Event
arrange e [] = e ∷ []
arrange e (x ∷ xs) = cond (nat_le (on_rank e) (on_rank x)) (e ∷ x ∷ xs) (x ∷ arrange e xs)

-- The events, arranged.
abbrev pub arranged : List Event → List Event
arranged [] = []
arranged (e ∷ es) = arrange e (arranged es)

-- An object written out, as calls that fill an empty one: an insert for each element of a list.
abbrev pub inserts : ObjId → ℕ → List Entry → List Event
inserts o i [] = []
inserts o i (e ∷ es) = record { on = o; does = insert_call i e } ∷ inserts o (suc i) es

-- A put for each key of a map or table.
abbrev pub puts : ObjId → List (Key × Entry) → List Event
puts o [] = []
puts o (x ∷ xs) = record { on = o; does = put_call (key x.0) x.1 } ∷ puts o xs

-- Any row; a text takes one splice, also if it has nothing in it.
abbrev pub written : ObjId → DocRow → List Event
written o (map_of m) = puts o m
written o (list_of l) = inserts o 0 l
written o (text_of t) = record { on = o; does = splice_call 0 t } ∷ []

-- Of an identity that is no object, nothing is written out.
abbrev pub wrote : Option Obj → List Event
wrote none = []
wrote (some o) = written o.ident o.row

-- The objects that the entries of a written row name join the queue.
abbrev pub naming : Option Obj → List ℕ
naming none = []
naming (some o) = ids (refs (items o))

-- The queue, by rising rank.
abbrev pub queue_in : ℕ → List ℕ → List ℕ
queue_in x q = enter (λ i. i) x q

-- Several that join it.
abbrev pub queue_all : List ℕ → List ℕ → List ℕ
queue_all [] q = q
queue_all (x ∷ xs) q = queue_in x (queue_all xs q)

-- Queue and events are taken together by rising identity. Where the queue is lower, or no event is left, its first is written out. Where both name the same object, the event is dropped: writing the object out will tell all. Else the event is a call.
-- Each line uses up an event or an identity, of which there are n at most.
abbrev pub turns : ℕ → Doc → List ℕ → List Event → List Event
turns zero d q es = []
turns (suc n) d [] [] = []
turns (suc n) d (x ∷ q) [] = wrote (find d x) ++ turns n d (queue_all (naming (find d x)) q) []
turns (suc n) d [] (e ∷ es) = e ∷ turns n d [] es
turns (suc n) d (x ∷ q) (e ∷ es) =
    cond (nat_lt x (on_rank e)) (wrote (find d x) ++ turns n d (queue_all (naming (find d x)) q) (e ∷ es))
    (cond (x == on_rank e) (turns n d (x ∷ q) es) (e ∷ turns n d (x ∷ q) es))

-- The queue before each line of that.
abbrev pub queues : ℕ → Doc → List ℕ → List Event → List (List ℕ)
queues zero d q es = []
queues (suc n) d [] [] = [] ∷ []
queues (suc n) d (x ∷ q) [] = (x ∷ q) ∷ queues n d (queue_all (naming (find d x)) q) []
queues (suc n) d [] (e ∷ es) = [] ∷ queues n d [] es
queues (suc n) d (x ∷ q) (e ∷ es) =
    (x ∷ q) ∷ cond (nat_lt x (on_rank e)) (queues n d (queue_all (naming (find d x)) q) (e ∷ es)) (cond (x == on_rank e) (queues n d (x ∷ q) es) (queues n d (x ∷ q) es))

-- The calls of making: the queue starts as the log's exposed identities.
abbrev pub making : Log → Doc → List Event
making l d = turns (suc (length l.events + (length l.exposed + length d))) d (queue_all (ranks l.exposed) []) (arranged l.events)

-- The same said by identity alone. An identity is new if it is exposed, or named in the row of a new object; new ones are found by going through the objects in order.
abbrev pub new_by : Obj → List ℕ → List ℕ
new_by o acc = cond (memb (name o) acc) (ids (refs (items o)) ++ acc) acc

-- All new identities.
abbrev pub news : List ℕ → Doc → List ℕ
news acc [] = acc
news acc (o ∷ os) = news (new_by o acc) os

-- In its turn a new identity is written out, and any other has its events.
abbrev pub turn_of : Log → Doc → ℕ → List Event
turn_of l d i = cond (memb i (news (ranks l.exposed) d)) (wrote (find d i)) (events_of l.events i)

-- The ranks of events' objects.
abbrev pub on_ranks : List Event → List ℕ
on_ranks [] = []
on_ranks (e ∷ es) = on_rank e ∷ on_ranks es

-- The identities that have an event or are new, in rising order, each once.
abbrev pub identities : Log → Doc → List ℕ
identities l d = queue_all (on_ranks l.events) (queue_all (news (ranks l.exposed) d) [])

-- The turns of identities, one after the other.
abbrev pub turns_of : Log → Doc → List ℕ → List Event
turns_of l d [] = []
turns_of l d (i ∷ is) = turn_of l d i ++ turns_of l d is

-- The calls as the builder hears them.
abbrev pub heard : List Event → List Input
heard [] = []
heard (e ∷ es) = call e.on e.does ∷ heard es

-- An answer, unless a call was refused.
abbrev pub unless_refused : {A : Type 0} → Option Refusal → Answer A → Answer A
unless_refused none a = a
unless_refused (some r) a = Err r

-- The patches that a builder over the document makes of the calls; the first refusal is making's.
module _ {U : Type 0} (units : List ℕ → List U) (d : Doc) where
  -- From the patches held so far.
  abbrev pub building : List (Patch U) → List Event → Answer (List (Patch U))
  building held [] = Ok (reverse held)
  building held (e ∷ es) = unless_refused (refusal_of units d held e.on e.does) (building (accept (builder_over units d) e.on e.does held) es)

-- Making: the patches of a log against a document, or the refusal of one of its builder calls.
abbrev pub make_patches : {U : Type 0} → (List ℕ → List U) → Log → Doc → Answer (List (Patch U))
make_patches units l d = building units d [] (making l d)
