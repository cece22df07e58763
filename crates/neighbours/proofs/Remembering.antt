-- A machine that remembers, to show that the part aside is room for one: a key, a memory, and what was last walked to. It meets `Parted`,
-- and the pair for which the part aside was made can be exchanged: a write of the key forgets, a release forgets where it frees something,
-- and neither looks at what is remembered. Nothing of the machine stands on this. Assumes nothing.
use mathlib.Core.Bool.{Bool, true, false, cond, not, ◌&&◌, and-false, true≢false, false≢true}
use mathlib.Core.Path.{◌≡◌, refl, ap}
use Prim.Native.Nat.{ℕ, zero, suc, ◌+◌}
use lib.Dec.{eqb}
use Rattle.effects.specs.Exposed.{Performed}
use Rattle.neighbours.specs.Swapped.{Swapped}
use Rattle.neighbours.proofs.Neighbours.{neighbours}
use Rattle.neighbours.proofs.Parted.{Alike, Parted}

pub data Step : Type 0 where
  write_key : ℕ → Step
  walk : Step
  release : Step

-- 0 is nothing remembered
pub record Small : Type 0 where
  pub key : ℕ
  pub memory : ℕ
  pub known : ℕ

abbrev pub walked : Small → ℕ
walked x = cond (eqb x.known 0) (x.key + x.memory) x.known

abbrev pub steps : Step → Small → Performed ℕ Small
steps (write_key v) x = record { answer = 0; after = record { key = v; memory = x.memory; known = 0 } }
steps walk x = record { answer = walked x; after = record { key = x.key; memory = x.memory; known = walked x } }
steps release x =
    record { answer = x.memory; after = record { key = x.key; memory = 0; known = cond (not (eqb x.memory 0)) 0 x.known } }

-- the key is place 0, and there is no other
abbrev key_at : Small → ℕ → ℕ
key_at x zero = x.key
key_at x (suc p) = 0

abbrev reads_key : Step → ℕ → Bool
reads_key (write_key v) p = false
reads_key walk p = eqb p 0
reads_key release p = false

abbrev rewrites_key : Step → ℕ → Bool
rewrites_key (write_key v) p = eqb p 0
rewrites_key walk p = false
rewrites_key release p = false

abbrev on_memory : Step → Bool
on_memory (write_key v) = false
on_memory walk = true
on_memory release = true

abbrev forgets : Step → Small → Bool
forgets (write_key v) x = true
forgets walk x = false
forgets release x = not (eqb x.memory 0)

abbrev Same : Step → Small → Small → Type 0
Same c x y = Alike reads_key on_memory (λ z. z.memory) (λ z. z.known) key_at 0 c x y

keeps : (c : Step) (x : Small) (p : ℕ) → rewrites_key c p ≡ false → key_at (steps c x).after p ≡ key_at x p
keeps (write_key v) x zero h = absurd (true≢false h)
keeps (write_key v) x (suc p) h = refl
keeps walk x zero h = refl
keeps walk x (suc p) h = refl
keeps release x zero h = refl
keeps release x (suc p) h = refl

stays : (c : Step) (x : Small) → on_memory c ≡ false → (steps c x).after.memory ≡ x.memory
stays (write_key v) x h = refl
stays walk x h = refl
stays release x h = absurd (true≢false h)

walked_alike : (x y : Small) → Same walk x y → walked x ≡ walked y
walked_alike x y a =
    let key : x.key ≡ y.key = a.places 0 refl in
    let memory : x.memory ≡ y.memory = a.memory refl in
    let known : x.known ≡ y.known = a.beside refl in
    λ i. cond (eqb (known i) 0) (key i + memory i) (known i)

answers : (c : Step) (x y : Small) → Same c x y → (steps c x).answer ≡ (steps c y).answer
answers (write_key v) x y a = refl
answers walk x y a = walked_alike x y a
answers release x y a = a.memory refl

renews : (c : Step) (x y : Small) (p : ℕ) → rewrites_key c p ≡ true → key_at (steps c x).after p ≡ key_at (steps c y).after p
renews (write_key v) x y zero h = refl
renews (write_key v) x y (suc p) h = refl
renews walk x y p h = absurd (false≢true h)
renews release x y p h = absurd (false≢true h)

moves : (c : Step) (x y : Small) → on_memory c ≡ true → Same c x y → (steps c x).after.memory ≡ (steps c y).after.memory
moves (write_key v) x y r a = absurd (false≢true r)
moves walk x y r a = a.memory refl
moves release x y r a = refl

recalls : (c : Step) (x y : Small) → (on_memory c && reads_key c 0) ≡ true → Same c x y
    → (steps c x).after.known ≡ (steps c y).after.known
recalls (write_key v) x y l a = absurd (false≢true l)
recalls walk x y l a = walked_alike x y a
recalls release x y l a = absurd (false≢true l)

leaves : (c : Step) (x : Small) → (on_memory c && reads_key c 0) ≡ false → (steps c x).after.known ≡ cond (forgets c x) 0 x.known
leaves (write_key v) x l = refl
leaves walk x l = absurd (true≢false l)
leaves release x l = refl

forgets_alike : (c : Step) (x y : Small) → Same c x y → forgets c x ≡ forgets c y
forgets_alike (write_key v) x y a = refl
forgets_alike walk x y a = refl
forgets_alike release x y a = ap (λ (n : ℕ). not (eqb n 0)) (a.memory refl)

holds : (c : Step) (x : Small) → on_memory c ≡ false → rewrites_key c 0 ≡ false → forgets c x ≡ false
holds (write_key v) x r w = w
holds walk x r w = refl
holds release x r w = absurd (true≢false r)

owed : Parted reads_key rewrites_key on_memory steps (λ x. x.memory) (λ x. x.known) key_at (λ x. Unit {0}) 0 0 forgets
owed =
    record {
      good = λ c x g. tt;
      keeps = λ c x p g h. keeps c x p h;
      stays = stays;
      answers = λ c x y g k a. answers c x y a;
      renews = λ c x y p g k a h. renews c x y p h;
      moves = λ c x y g k r a. moves c x y r a;
      recalls = λ c x y g k l a. recalls c x y l a;
      leaves = λ c x g l. leaves c x l;
      empties_alike = λ c x y g k l a. forgets_alike c x y a;
      holds = λ c x g r w. holds c x r w;
    }

whole : (x y : Small) → x.memory ≡ y.memory → x.known ≡ y.known → ((p : ℕ) → key_at x p ≡ key_at y p) → x ≡ y
whole x y m k p = λ i. record { key = p 0 i; memory = m i; known = k i }

pub key_and_release : (v : ℕ) (x : Small) → Swapped steps (write_key v) release x
key_and_release v x =
    neighbours reads_key rewrites_key on_memory steps (λ y. y.memory) (λ y. y.known) key_at (λ y. Unit {0}) 0 0 forgets owed
    (λ y z g k. whole y z) (write_key v) release x tt (record { forth = λ p. and-false (eqb p 0); back = λ p. refl; one_only = refl })
