-- Which port stands in the origins of what is served at a place (RFC 6454, section 6.2).
use Rattle.std.specs.Prelude.{◌≡◌, ℕ, ⊤}
use Rattle.std.specs.Net.Socket.{socket_port}
use Rattle.patient_stream.specs.declared.listener.Listener.{Listener}
use Rattle.patient_stream.specs.declared.listener.Listener.TheVariants as listener
use Rattle.patient_stream.specs.declared.place.Place.{Place}
use Rattle.patient_stream.specs.declared.place.Place.TheVariants.{Port, Socket}

-- that of the address at which a listener takes connections, or that of HTTP, which an origin leaves out, at the socket of a file
abbrev pub port_of : Listener → ℕ
port_of (listener.Port address it) = socket_port address
port_of (listener.Socket file it) = 80

-- at a port it is any, as the system gives it, and at a file that of HTTP
abbrev pub IsPortOf : Place → ℕ → Type 0
IsPortOf (Port asked) port = ⊤
IsPortOf (Socket path) port = port ≡ 80
