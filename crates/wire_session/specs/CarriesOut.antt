-- What a record does to the machine, the store and the lent bytes, and what it answers (docs/FORMAT.md, "A record", "Texts and the
-- report"): equations in each case, chosen by the kind. What is no record (an unknown kind, words that name nothing, a block of the wrong
-- length, no room for what is given) does nothing and has no answer; no other record does so.
use Rattle.std.specs.Prelude.{cond, List, ◌≡◌, ℕ, length, Option, Some, None, MatchOption}
use Rattle.instruction_set.specs.declared.ArgumentSize.TheVariants.{Bit8}
use Rattle.store.specs.Store.{Store, store_of}
use Rattle.machine_state.specs.Answers.{CallResult, outcome_of}
use Rattle.machine_state.specs.Memory.{loaded}
use Rattle.machine_state.specs.declared.Answered.{Answered}
use Rattle.machine_state.specs.declared.Event.TheVariants.{Quiet}
use Rattle.machine_state.specs.declared.MachineState.{MachineState}
use Rattle.calls.specs.Step.{step, with_lent}
use Rattle.wire_records.specs.Blocks.{block_fits}
use Rattle.wire_records.specs.Decoded.{call_of}
use Rattle.wire_records.specs.declared.Header.{Header}
use Rattle.wire_records.specs.declared.Reply.{Reply}
use Rattle.wire_records.specs.declared.kinds.Kind.{Kind}
use Rattle.wire_records.specs.declared.kinds.Kind.TheVariants as kind
use Rattle.wire_records.specs.declared.kinds.ShowKind.{ShowKind}
use Rattle.wire_records.specs.declared.kinds.ShowKind.TheVariants as show
use Rattle.wire_session.specs.Accesses.{Accesses}
use Rattle.wire_session.specs.Replies.{reply_of, WordsGiven}
use Rattle.wire_session.specs.Reports.{Reports}
use Rattle.wire_session.specs.Shows.{PageGiven, BytesGiven, MachineGiven, Loaded}
use Rattle.wire_session.specs.Texts.{Texts, asked}
use Rattle.wire_session.specs.declared.Carried.{Carried}

-- what a call left, with so many of the lent bytes
pub record CallCarried (a : CallResult) (given : ℕ) (c : Carried) (s' : Store) (l' : List ℕ) : Type 0 where
  pub machine : c.machine ≡ a.machine
  pub event : c.event ≡ a.event
  pub reply : c.reply ≡ Some (reply_of a.outcome given)
  pub store : s' ≡ a.store
  pub lent : l' ≡ a.lent

-- the machine stays, and nothing is shown on the screen
abbrev pub still : MachineState → ℕ → Option Reply → Carried
still m u r = record { machine = m; used = u; event = Quiet; reply = r }

-- what leaves the machine and the count: a load changes the store's bytes, and nothing else changes the store
unfoldable pub ShowCarried : ShowKind → Header → MachineState → Store → List ℕ → Option Reply → Store → List ℕ → Type 0
ShowCarried show.PageView h m s l r s' l' = PageGiven h s l r l' × (s' ≡ s)
ShowCarried show.Load h m s l r s' l' = Loaded h.a l s.bytes r s'.bytes × (s' ≡ store_of s.dir s'.bytes s.used) × (l' ≡ l)
ShowCarried show.ShowMachine h m s l r s' l' = MachineGiven m l r l' × (s' ≡ s)
ShowCarried show.ShowDirectory h m s l r s' l' = WordsGiven s.dir l r l' × (s' ≡ s)
ShowCarried show.ShowBytes h m s l r s' l' = BytesGiven s.bytes h.a h.b l r l' × (s' ≡ s)
ShowCarried show.Report h m s l r s' l' = Reports h l r l' × (s' ≡ s)

-- the reply and the store afterwards are as P says
pub record Stays (m : MachineState) (s : Store) (P : Option Reply → Store → Type 0) (c : Carried) (s' : Store) : Type 0 where
  pub reply : Option Reply
  pub tells : P reply s'
  pub carried : c ≡ still m s.used reply

-- what is no call leaves all as it was
pub record NoCall (m : MachineState) (s : Store) (l : List ℕ) (c : Carried) (s' : Store) (l' : List ℕ) : Type 0 where
  pub carried : c ≡ still m s.used None
  pub store : s' ≡ s
  pub lent : l' ≡ l

-- a tabled call
unfoldable pub Called : Header → MachineState → Store → List ℕ → Carried → Store → List ℕ → Type 0
Called h m s l c s' l' = MatchOption (call_of h) (NoCall m s l c s' l') (λ k. CallCarried (step k m s l) (length l) c s' l')

-- by the kind; an access and a text leave the store too, and a reset, or what drive answers, is no record here
unfoldable pub Carries : Kind → Header → MachineState → Store → List ℕ → Carried → Store → List ℕ → Type 0
Carries kind.Unknown h m s l c s' l' = NoCall m s l c s' l'
Carries (kind.Call k) h m s l c s' l' = Called h m s l c s' l'
Carries kind.ReadByte h m s l c s' l' = CallCarried (with_lent l (loaded m s h.a Bit8)) 0 c s' l'
Carries (kind.Access k) h m s l c s' l' = Stays m s (λ (r : Option Reply) (t : Store). Accesses k h l r l' × (t ≡ s)) c s'
Carries (kind.Show k) h m s l c s' l' = Stays m s (λ (r : Option Reply) (t : Store). ShowCarried k h m s l r t l') c s'
Carries (kind.Text k) h m s l c s' l' = Stays m s (λ (r : Option Reply) (t : Store). Texts (asked k h m) l r l' × (t ≡ s)) c s'
Carries kind.Reset h m s l c s' l' = NoCall m s l c s' l'
Carries kind.ReadBack h m s l c s' l' = NoCall m s l c s' l'
Carries kind.Depends h m s l c s' l' = NoCall m s l c s' l'

-- a block that the kind does not have makes it no record; s' is the store afterwards, with the count in c
unfoldable pub CarriesOut : Header → MachineState → Store → List ℕ → Carried → Store → List ℕ → Type 0
CarriesOut h m s l c s' l' = cond (block_fits h) (Carries h.kind h m s l c s' l') (NoCall m s l c s' l')

-- ---- what only private functions' contracts cite
abbrev pub carried_by : Answered → ℕ → Carried
carried_by a g = record { machine = a.machine; used = a.used; event = a.event; reply = Some (reply_of (outcome_of a.answer) g) }
