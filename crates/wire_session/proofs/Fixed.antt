-- Two outcomes that meet a record's contract are equal: the words choose the case, and each case is equations. By cases. Assumes nothing.
use Rattle.std.specs.Prelude.{Option, Some, None, MatchOption}
use mathlib.Core.Bool.{Bool, true, false, cond}
use mathlib.Core.List.{List, [], ◌∷◌}
use mathlib.Core.Path.{◌≡◌, sym, ap, ◌∙◌}
use Prim.Native.Nat.{ℕ, ◌/◌}
use lib.Dec.{ltb}
use lib.ListN.{length}
use Rattle.utils.specs.Outcome.{Outcome, accepted}
use Rattle.instruction_set.specs.Arguments.{one_argument, two_arguments}
use Rattle.instruction_set.specs.declared.InstructionArgument.{InstructionArgument}
use Rattle.instruction_set.specs.declared.InstructionArguments.{InstructionArguments}
use Rattle.store.specs.Store.{Store, store_of}
use Rattle.store.specs.View.{view_of}
use Rattle.machine_state.specs.Answers.{CallResult}
use Rattle.machine_state.specs.declared.MachineState.{MachineState}
use Rattle.calls.specs.Step.{step}
use Rattle.calls.specs.declared.Call.{Call}
use Rattle.text.specs.Answers.{TextOrRefusal}
use Rattle.wire_records.specs.Blocks.{block_fits}
use Rattle.wire_records.specs.Decoded.{arguments_at, call_of}
use Rattle.wire_records.specs.declared.Header.{Header}
use Rattle.wire_records.specs.declared.Reply.{Reply}
use Rattle.wire_records.specs.declared.kinds.AccessKind.{AccessKind}
use Rattle.wire_records.specs.declared.kinds.AccessKind.TheVariants.{SelectSize, OneArgument, TwoArguments}
use Rattle.wire_records.specs.declared.kinds.Kind.{Kind}
use Rattle.wire_records.specs.declared.kinds.Kind.TheVariants as kind
use Rattle.wire_records.specs.declared.kinds.ShowKind.{ShowKind}
use Rattle.wire_records.specs.declared.kinds.ShowKind.TheVariants as show
use Rattle.wire_session.specs.Accesses.{OperandsGiven, Accessed, Accesses}
use Rattle.wire_session.specs.CarriesOut.{CallCarried, still, ShowCarried, Stays, NoCall, Called, Carries, CarriesOut}
use Rattle.wire_session.specs.Replies.{NoRecord, GivenIf}
use Rattle.wire_session.specs.Reports.{calls_listed, whole, Reported, Reports}
use Rattle.wire_session.specs.Shows.{zeros_of, ViewGiven, PageGiven}
use Rattle.wire_session.specs.Texts.{asked, Texts}
use Rattle.wire_session.specs.declared.Carried.{Carried}

-- the same test chooses the same case
either : (b : Bool) {A A' B B' X : Type 0} → (A → A' → X) → (B → B' → X) → cond b A B → cond b A' B' → X
either true f g p q = f p q
either false f g p q = g p q

-- ---- a reply and the lent bytes
pub record Same (r r' : Option Reply) (x y : List ℕ) : Type 0 where
  pub reply : r ≡ r'
  pub bytes : x ≡ y

meet : {r r' a : Option Reply} {x y b : List ℕ} → r ≡ a → x ≡ b → r' ≡ a → y ≡ b → Same r r' x y
meet p q s t = record { reply = p ∙ sym s; bytes = q ∙ sym t }

none_one : {l x y : List ℕ} {r r' : Option Reply} → NoRecord l r x → NoRecord l r' y → Same r r' x y
none_one p q = meet p.reply p.bytes q.reply q.bytes

given_one : {ok : Bool} {g at n : ℕ} {d x y : List ℕ} {f : ℕ → ℕ} {r r' : Option Reply}
    → GivenIf ok g d at f n r x → GivenIf ok g d at f n r' y → Same r r' x y
given_one p q = meet p.reply p.bytes q.reply q.bytes

module _ (l : List ℕ) {x y : List ℕ} {r r' : Option Reply} where
  operands_one : (o : Outcome InstructionArgument) → OperandsGiven o l r x → OperandsGiven o l r' y → Same r r' x y
  operands_one o = either (accepted o) given_one (λ p q. meet p.0 p.1 q.0 q.1)

  accessed_one : (k : AccessKind) (a : InstructionArguments) → Accessed k a l r x → Accessed k a l r' y → Same r r' x y
  accessed_one SelectSize a p q = meet p.0 p.1 q.0 q.1
  accessed_one OneArgument a p q = operands_one (one_argument a) p q
  accessed_one TwoArguments a p q = operands_one (two_arguments a) p q

  accesses_one : (k : AccessKind) (h : Header) → Accesses k h l r x → Accesses k h l r' y → Same r r' x y
  unfolding Accesses
  accesses_one k h = go (arguments_at h h.b h.c)
    where
      go : (s : Option InstructionArguments) → MatchOption s (NoRecord l r x) (λ a. Accessed k a l r x)
          → MatchOption s (NoRecord l r' y) (λ a. Accessed k a l r' y) → Same r r' x y
      go None p q = none_one p q
      go (Some a) p q = accessed_one k a p q

  texts_one : (t : Option TextOrRefusal) → Texts t l r x → Texts t l r' y → Same r r' x y
  texts_one None p q = none_one p q
  texts_one (Some t) p q = meet p.0 p.1 q.0 q.1

  reports_one : (h : Header) → Reports h l r x → Reports h l r' y → Same r r' x y
  unfolding Reports
  reports_one h = either (whole h l) (go (calls_listed l (h.length / 128))) none_one
    where
      go : (cs : Option (List Call)) → MatchOption cs (NoRecord l r x) (λ c. Reported h l c r x)
          → MatchOption cs (NoRecord l r' y) (λ c. Reported h l c r' y) → Same r r' x y
      go None p q = none_one p q
      go (Some cs) p q = meet p.reply p.bytes q.reply q.bytes

  view_one : (v : List ℕ) (from n : ℕ) → ViewGiven v from n l r x → ViewGiven v from n l r' y → Same r r' x y
  view_one [] from n p q = meet p.0 p.1 q.0 q.1
  view_one (b ∷ bs) from n p q = given_one p q

  page_one : (h : Header) (s : Store) → PageGiven h s l r x → PageGiven h s l r' y → Same r r' x y
  page_one h s =
      either (ltb 4097 h.first.base) none_one
      (view_one (view_of s (zeros_of h.first.base h.first.value) h.a) h.b h.c)

  -- ---- and the store, which stays but for the bytes of a load
  kept : {s a b : Store} {A B : Type 0} → (A → B → Same r r' x y) → A × (a ≡ s) → B × (b ≡ s) → Same r r' x y × (a ≡ b)
  kept f p q = (f p.0 q.0, p.1 ∙ sym q.1)

  tells_one : (k : ShowKind) (h : Header) (m : MachineState) (s : Store) {a b : Store}
      → ShowCarried k h m s l r a x → ShowCarried k h m s l r' b y → Same r r' x y × (a ≡ b)
  unfolding ShowCarried
  tells_one show.PageView h m s p q = kept (page_one h s) p q
  tells_one show.Load h m s p q =
      let g = given_one p.0 q.0 in (
        record { reply = g.reply; bytes = p.2 ∙ sym q.2 },
        p.1 ∙ ap (λ (c : List ℕ). store_of s.dir c s.used) g.bytes ∙ sym q.1,
      )
  tells_one show.ShowMachine h m s p q = kept given_one p q
  tells_one show.ShowDirectory h m s p q = kept given_one p q
  tells_one show.ShowBytes h m s p q = kept given_one p q
  tells_one show.Report h m s p q = kept (reports_one h) p q

-- ---- a record: the count in use is that of the store
pub record One (c c' : Carried) (s s' : Store) (x y : List ℕ) : Type 0 where
  pub machine : c.machine ≡ c'.machine
  pub event : c.event ≡ c'.event
  pub reply : c.reply ≡ c'.reply
  pub store : s ≡ s'
  pub lent : x ≡ y

same_carried : {c c' : Carried} {s s' : Store} {x y : List ℕ} → c ≡ c' → s ≡ s' → x ≡ y → One c c' s s' x y
same_carried e p q = record {
  machine = ap (λ (c : Carried). c.machine) e;
  event = ap (λ (c : Carried). c.event) e;
  reply = ap (λ (c : Carried). c.reply) e;
  store = p;
  lent = q;
}

leaves_one : {a : CallResult} {g : ℕ} {c c' : Carried} {s s' : Store} {x y : List ℕ}
    → CallCarried a g c s x → CallCarried a g c' s' y → One c c' s s' x y
leaves_one p q = record {
  machine = p.machine ∙ sym q.machine;
  event = p.event ∙ sym q.event;
  reply = p.reply ∙ sym q.reply;
  store = p.store ∙ sym q.store;
  lent = p.lent ∙ sym q.lent;
}

-- what leaves the machine, where the reply and the store are fixed
stays_one : (m : MachineState) (s : Store) {P Q : Option Reply → Store → Type 0} {c c' : Carried} {a b : Store} {x y : List ℕ}
    → ((r r' : Option Reply) → P r a → Q r' b → Same r r' x y × (a ≡ b)) → Stays m s P c a → Stays m s Q c' b → One c c' a b x y
stays_one m s f p q =
    let e = f p.reply q.reply p.tells q.tells in
    same_carried (p.carried ∙ ap (λ (r : Option Reply). still m s.used r) e.0.reply ∙ sym q.carried) e.1 e.0.bytes

module _ (h : Header) (m : MachineState) (s : Store) (l : List ℕ) {c c' : Carried} {a b : Store} {x y : List ℕ} where
  none_left : NoCall m s l c a x → NoCall m s l c' b y → One c c' a b x y
  none_left p q = same_carried (p.carried ∙ sym q.carried) (p.store ∙ sym q.store) (p.lent ∙ sym q.lent)

  called_one : Called h m s l c a x → Called h m s l c' b y → One c c' a b x y
  unfolding Called
  called_one = go (call_of h)
    where
      go : (k : Option Call) → MatchOption k (NoCall m s l c a x) (λ k. CallCarried (step k m s l) (length l) c a x)
          → MatchOption k (NoCall m s l c' b y) (λ k. CallCarried (step k m s l) (length l) c' b y) → One c c' a b x y
      go None p q = none_left p q
      go (Some k) p q = leaves_one p q

  carries_one : (k : Kind) → Carries k h m s l c a x → Carries k h m s l c' b y → One c c' a b x y
  unfolding Carries
  carries_one kind.Unknown p q = none_left p q
  carries_one (kind.Call k) p q = called_one p q
  carries_one kind.ReadByte p q = leaves_one p q
  carries_one (kind.Access k) p q = stays_one m s (λ r r' t u. kept l (accesses_one l k h) t u) p q
  carries_one (kind.Show k) p q = stays_one m s (λ r r' t u. tells_one l k h m s t u) p q
  carries_one (kind.Text k) p q = stays_one m s (λ r r' t u. kept l (texts_one l (asked k h m)) t u) p q
  carries_one kind.Reset p q = none_left p q
  carries_one kind.ReadBack p q = none_left p q
  carries_one kind.Depends p q = none_left p q

  pub carried_one : CarriesOut h m s l c a x → CarriesOut h m s l c' b y → One c c' a b x y
  unfolding CarriesOut
  carried_one = either (block_fits h) (carries_one h.kind) none_left
