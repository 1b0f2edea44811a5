-- That worlds are the same but for the order of reads is an equivalence, and so is that aborted runs spent the same.
use Rattle.std.proofs.Common.{List, refl, sym, ◌∙◌}
use Rattle.ob_heap_spec.specs.Worlds.{ReadItem, World, Spent, ReadSame, SameWorld, SameSpent}

pub read_same : (a : List ReadItem) → ReadSame a a
read_same a = ((λ item c. c), (λ item c. c))

pub read_same_back : (a b : List ReadItem) → ReadSame a b → ReadSame b a
read_same_back a b h = (h.1, h.0)

pub read_same_on : (a b c : List ReadItem) → ReadSame a b → ReadSame b c → ReadSame a c
read_same_on a b c g h = ((λ item x. h.0 item (g.0 item x)), (λ item x. g.1 item (h.1 item x)))

pub same_world : (w : World) → SameWorld w w
same_world w = record {
  objects = refl;
  made = refl;
  locked = refl;
  progress = refl;
  fuel = refl;
  taken = refl;
  reads = read_same w.reads;
}

pub same_world_back : {w v : World} → SameWorld w v → SameWorld v w
same_world_back {w = w} {v = v} a = record {
  objects = sym a.objects;
  made = sym a.made;
  locked = sym a.locked;
  progress = sym a.progress;
  fuel = sym a.fuel;
  taken = sym a.taken;
  reads = read_same_back w.reads v.reads a.reads;
}

pub same_world_on : {w v u : World} → SameWorld w v → SameWorld v u → SameWorld w u
same_world_on {w = w} {v = v} {u = u} a b = record {
  objects = b.objects ∙ a.objects;
  made = b.made ∙ a.made;
  locked = b.locked ∙ a.locked;
  progress = b.progress ∙ a.progress;
  fuel = b.fuel ∙ a.fuel;
  taken = b.taken ∙ a.taken;
  reads = read_same_on w.reads v.reads u.reads a.reads b.reads;
}

pub same_spent : (s : Spent) → SameSpent s s
same_spent s = record { taken = refl; reads = read_same s.reads }

pub same_spent_back : {s t : Spent} → SameSpent s t → SameSpent t s
same_spent_back {s = s} {t = t} a =
    record { taken = sym a.taken; reads = read_same_back s.reads t.reads a.reads }

pub same_spent_on : {s t u : Spent} → SameSpent s t → SameSpent t u → SameSpent s u
same_spent_on {s = s} {t = t} {u = u} a b =
    record { taken = b.taken ∙ a.taken; reads = read_same_on s.reads t.reads u.reads a.reads b.reads }
