-- What a line that was read says.
use Rattle.ibos_origin.specs.declared.host_line.HostLine as read
use Rattle.ibos_origin.specs.declared.host_line.HostLine.TheVariants as read_as
use Rattle.ibos_origin.specs.HostLines.{HostLine, Nothing, Own, Gateway, Named}

abbrev pub host_line_of : read.HostLine → HostLine
host_line_of read_as.Nothing = Nothing
host_line_of (read_as.Own addr mac) = Own addr mac
host_line_of (read_as.Gateway mac) = Gateway mac
host_line_of (read_as.Named name addr) = Named name.now addr
