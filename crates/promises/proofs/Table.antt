-- The examples 10.1 to 10.12 of RULES, all in one claim. The checker computes what it can; what a write leaves in a page of 4,096 bytes
-- goes by the laws of memory. Assumes nothing.
use mathlib.Core.List.{List, [], ◌∷◌}
use mathlib.Core.Logic.{inl}
use mathlib.Core.Path.{◌≡◌, refl, ◌∙◌, ap, ap₂}
use Prim.Native.Nat.{ℕ, ◌<◌}
use native.Mathlib.Omega.{arith}
use lib.Count.{ones, ones_in}
use lib.ListN.{get_or, replicate}
use Rattle.utils.specs.Bytes.{from_bytes}
use Rattle.utils.specs.Outcome.{Outcome, gives, accepted}
use Rattle.utils.specs.Word.{cut, put, extend}
use Rattle.instruction_set.specs.Registers.{row}
use Rattle.instruction_set.specs.declared.ArgumentSize.TheVariants.{Bit8, Bit16, Bit64}
use Rattle.instruction_set.specs.declared.Register.TheVariants.{RAX, RSP, EAX, AX, SPL}
use Rattle.fields.specs.FlagBits.{bit_set, put_flag, even_ones}
use Rattle.fields.specs.Parts.{read_of, write_of}
use Rattle.mmu.specs.Calls.{read_outcome, read_out, write_outcome}
use Rattle.store.specs.Store.{is_store, seek, found_in, byte_at, read_at, pages_from, touched, absent_of}
use Rattle.byte_runs.specs.Runs.{tabulate}
use Rattle.walk.specs.Walk.{entry_address, word_at, next_table, walked, physical}
use Rattle.machine_state.specs.Address.{address_of}
use Rattle.machine_state.specs.Answers.{Value, word}
use Rattle.machine_state.specs.Machine.{new_machine, read_reg, write_reg}
use Rattle.machine_state.specs.Memory.{loaded, pushed, read_memory, write_memory}
use Rattle.effects.specs.Exposed.{exposed}
use Rattle.effects.specs.Places.{reads, rewrites}
use Rattle.effects.specs.Rows.{reads_of, rewrites_of, in_span, in_spans}
use Rattle.promises.specs.Table.{minus, number_and_values, eighty, two_slots, one_slot, page_zero, page_tables, eight, after_push}
use Rattle.promises.specs.Table.{after_top}
use Rattle.promises.specs.Table.{places_of, exposed_of, writing_register, reading_register, pushing_byte, table, all_computed, all_stated}
use Rattle.promises.proofs.Demand2.{reads_accepted, reads_back, others_stay, sound_after}

cons : {a b : List ℕ} {xs ys : List (List ℕ)} → a ≡ b → xs ≡ ys → a ∷ xs ≡ b ∷ ys
cons e f = ap₂ ◌∷◌ e f

-- ---- memory
eighty_byte : number_and_values (loaded new_machine eighty 0 Bit8).outcome ≡ 0 ∷ 128 ∷ []
unfolding loaded read_memory read_out read_outcome is_store eighty physical read_at tabulate byte_at found_in seek from_bytes
eighty_byte = refl

eighty_word : number_and_values (loaded new_machine eighty 0 Bit16).outcome ≡ 0 ∷ minus 32640 ∷ []
unfolding loaded read_memory read_out read_outcome is_store eighty physical read_at tabulate byte_at found_in seek from_bytes extend
eighty_word = refl

walk : physical page_tables 0x1000 0x40200005 ∷ [] ≡ 0x600005 ∷ []
unfolding page_tables physical walked next_table entry_address cut word_at from_bytes read_at tabulate byte_at found_in seek
walk = refl

room : (write_memory new_machine one_slot 4095 (1 ∷ 2 ∷ [])).outcome.number ∷ (write_memory new_machine page_zero 4095 (1 ∷ 2 ∷ [])
    ).outcome.number ∷ [] ≡ 6 ∷ 0 ∷ []
unfolding write_memory write_outcome one_slot page_zero is_store physical touched pages_from absent_of found_in seek
room = refl

top_fits : after_top.outcome ≡ gives []
unfolding write_memory write_outcome two_slots is_store physical touched pages_from absent_of found_in seek
top_fits = refl

top : after_top.outcome.number ∷ byte_at after_top.store 0 ∷ [] ≡ 0 ∷ 0 ∷ []
top =
    ap₂ (λ (x y : ℕ). x ∷ y ∷ []) (ap (λ (o : Outcome Value). o.number) top_fits)
    (others_stay new_machine two_slots (minus 1) (1 ∷ 2 ∷ []) (ap accepted top_fits) 0 (inl below) ∙ zero_there)
  where
    below : 0 < physical two_slots 0 (minus 1)
    below = unfold physical in omega arith

    zero_there : byte_at two_slots 0 ≡ 0
    zero_there = unfold two_slots byte_at found_in seek in refl

-- ---- the push
push_fits : (write_memory new_machine two_slots (minus 8) eight).outcome ≡ gives []
unfolding write_memory write_outcome two_slots is_store physical touched pages_from absent_of found_in seek
push_fits = refl

push_rsp : read_reg after_push.machine RSP ≡ minus 8
unfolding pushed write_memory write_outcome two_slots is_store physical touched pages_from absent_of found_in seek read_reg read_of row
    cut extend
push_rsp = refl

push_store : after_push.store ≡ (write_memory new_machine two_slots (minus 8) eight).store
unfolding pushed
push_store = refl

pushed_bytes : (loaded new_machine after_push.store (minus 8) Bit64).outcome ≡ gives (word 0x0807060504030201 ∷ [])
unfolding loaded
pushed_bytes =
    let t = (write_memory new_machine two_slots (minus 8) eight).store in
    let z = replicate {A = ℕ} 8 0 in
    let b : (read_memory new_machine t (minus 8) z).lent ≡ eight =
    reads_back new_machine two_slots (minus 8) eight z (ap accepted push_fits) refl (unfold physical in refl) in
    let o : (read_memory new_machine t (minus 8) z).outcome ≡ gives [] =
    reads_accepted new_machine t (minus 8) z (sound_after new_machine two_slots (minus 8) eight (ap accepted push_fits)) (omega arith) in
    rw (push_store, o, b) (unfold from_bytes in refl)

push : read_reg after_push.machine RSP ∷ number_and_values (loaded new_machine after_push.store (minus 8) Bit64).outcome
    ≡ minus 8 ∷ 0 ∷ 0x0807060504030201 ∷ []
push = ap₂ {A = ℕ} {B = Outcome Value} (λ x o. x ∷ number_and_values o) push_rsp pushed_bytes

-- ---- registers, flags and addresses
abbrev values : ℕ → List (List ℕ) → List ℕ
values n ls = get_or ls n []

low_byte : values 0 (all_computed table) ≡ values 0 (all_stated table)
unfolding read_reg write_reg read_of write_of row cut put extend
low_byte = refl

low_half : values 1 (all_computed table) ≡ values 1 (all_stated table)
unfolding read_reg write_reg read_of write_of row cut put extend
low_half = refl

parts : values 2 (all_computed table) ≡ values 2 (all_stated table)
unfolding read_reg write_reg read_of write_of row cut put extend
parts = refl

set : values 5 (all_computed table) ≡ values 5 (all_stated table)
unfolding put_flag bit_set even_ones ones ones_in cut put
set = refl

address : values 6 (all_computed table) ≡ values 6 (all_stated table)
unfolding address_of read_reg write_reg read_of write_of row cut put extend
address = refl

-- ---- exposed places
ax_eax : exposed_of (writing_register AX ∷ reading_register EAX ∷ []) ≡ 2 ∷ 3 ∷ []
unfolding exposed_of places_of exposed reads rewrites reads_of rewrites_of in_span in_spans row
ax_eax = refl

eax_rax : exposed_of (writing_register EAX ∷ reading_register RAX ∷ []) ≡ []
unfolding exposed_of places_of exposed reads rewrites reads_of rewrites_of in_span in_spans row
eax_rax = refl

push_spl : exposed_of (pushing_byte ∷ reading_register SPL ∷ [])
    ≡ 32 ∷ 33 ∷ 34 ∷ 35 ∷ 36 ∷ 37 ∷ 38 ∷ 39 ∷ 152 ∷ 153 ∷ 154 ∷ 155 ∷ 156 ∷ 157 ∷ 158 ∷ 159 ∷ []
unfolding exposed_of places_of exposed reads rewrites reads_of rewrites_of in_span in_spans row
push_spl = refl

pub examples : all_computed table ≡ all_stated table
examples =
    cons low_byte
    (cons low_half
    (cons parts
    (cons eighty_byte
    (cons eighty_word
    (cons set (cons address (cons push (cons top (cons walk (cons room (cons ax_eax (cons eax_rax (cons push_spl refl)))))))))))))
