-- Processors are the same if all that they have is.
use Rattle.std.proofs.Common.{◌≡◌, ◌∙◌, Bool, true, ap}
use Rattle.std.specs.Prelude.{◌&&◌}
use Rattle.std.proofs.lemmas.Bool.{and_parts}
use Rattle.i8080_words.specs.declared.arithmetic.Flags.{Flags}
use Rattle.i8080_words.specs.declared.registers.Processor.{Processor}
use Rattle.i8080_words.specs.declared.registers.Regs.{Regs}

-- flags
pub same_flags : (x y : Flags) → x.s ≡ y.s → x.z ≡ y.z → x.ac ≡ y.ac → x.p ≡ y.p → x.cy ≡ y.cy → x ≡ y
same_flags x y e0 e1 e2 e3 e4 =
    ap (λ v. record { s = v; z = x.z; ac = x.ac; p = x.p; cy = x.cy }) e0
    ∙ ap (λ v. record { s = y.s; z = v; ac = x.ac; p = x.p; cy = x.cy }) e1
    ∙ ap (λ v. record { s = y.s; z = y.z; ac = v; p = x.p; cy = x.cy }) e2
    ∙ ap (λ v. record { s = y.s; z = y.z; ac = y.ac; p = v; cy = x.cy }) e3
    ∙ ap (λ v. record { s = y.s; z = y.z; ac = y.ac; p = y.p; cy = v }) e4

-- registers
pub same_regs : (x y : Regs) → x.pc ≡ y.pc → x.sp ≡ y.sp → x.b ≡ y.b → x.c ≡ y.c → x.d ≡ y.d → x.e ≡ y.e → x.h ≡ y.h → x.l ≡ y.l → x.a ≡ y.a → x.flags ≡ y.flags → x ≡ y
same_regs x y e0 e1 e2 e3 e4 e5 e6 e7 e8 e9 =
    ap (λ v. record { pc = v; sp = x.sp; b = x.b; c = x.c; d = x.d; e = x.e; h = x.h; l = x.l; a = x.a; flags = x.flags }) e0
    ∙ ap (λ v. record { pc = y.pc; sp = v; b = x.b; c = x.c; d = x.d; e = x.e; h = x.h; l = x.l; a = x.a; flags = x.flags }) e1
    ∙ ap (λ v. record { pc = y.pc; sp = y.sp; b = v; c = x.c; d = x.d; e = x.e; h = x.h; l = x.l; a = x.a; flags = x.flags }) e2
    ∙ ap (λ v. record { pc = y.pc; sp = y.sp; b = y.b; c = v; d = x.d; e = x.e; h = x.h; l = x.l; a = x.a; flags = x.flags }) e3
    ∙ ap (λ v. record { pc = y.pc; sp = y.sp; b = y.b; c = y.c; d = v; e = x.e; h = x.h; l = x.l; a = x.a; flags = x.flags }) e4
    ∙ ap (λ v. record { pc = y.pc; sp = y.sp; b = y.b; c = y.c; d = y.d; e = v; h = x.h; l = x.l; a = x.a; flags = x.flags }) e5
    ∙ ap (λ v. record { pc = y.pc; sp = y.sp; b = y.b; c = y.c; d = y.d; e = y.e; h = v; l = x.l; a = x.a; flags = x.flags }) e6
    ∙ ap (λ v. record { pc = y.pc; sp = y.sp; b = y.b; c = y.c; d = y.d; e = y.e; h = y.h; l = v; a = x.a; flags = x.flags }) e7
    ∙ ap (λ v. record { pc = y.pc; sp = y.sp; b = y.b; c = y.c; d = y.d; e = y.e; h = y.h; l = y.l; a = v; flags = x.flags }) e8
    ∙ ap (λ v. record { pc = y.pc; sp = y.sp; b = y.b; c = y.c; d = y.d; e = y.e; h = y.h; l = y.l; a = y.a; flags = v }) e9

pub same_processors : (x y : Processor) → x.regs ≡ y.regs → x.interrupts ≡ y.interrupts → x.halted ≡ y.halted → x ≡ y
same_processors x y e0 e1 e2 =
    ap (λ v. record { regs = v; interrupts = x.interrupts; halted = x.halted }) e0
    ∙ ap (λ v. record { regs = y.regs; interrupts = v; halted = x.halted }) e1
    ∙ ap (λ v. record { regs = y.regs; interrupts = y.interrupts; halted = v }) e2

-- of tests that all hold, those after the first eight hold
pub after_eight : (a b c d e f g h rest : Bool) → (a && (b && (c && (d && (e && (f && (g && (h && rest)))))))) ≡ true → rest ≡ true
after_eight a b c d e f g h rest all =
    (and_parts h rest (and_parts g (h && rest) (and_parts f (g && (h && rest)) (and_parts e (f && (g && (h && rest)))
    (and_parts d (e && (f && (g && (h && rest)))) (and_parts c (d && (e && (f && (g && (h && rest)))))
    (and_parts b (c && (d && (e && (f && (g && (h && rest))))))
    (and_parts a (b && (c && (d && (e && (f && (g && (h && rest))))))) all).1).1).1).1).1).1).1).1
